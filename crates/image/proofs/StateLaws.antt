-- A state in range: each of its values is within its width, and its image is what the code stores.
use mathlib.Core.Bool.{Bool, true, false}
use mathlib.Core.Path.{◌≡◌, refl, sym, ap, ◌∙◌}
use mathlib.Core.List.{List, [], ◌∷◌, ◌++◌, append_assoc}
use Prim.Native.Nat.{ℕ, zero, suc, ◌+◌, ◌*◌, ◌^◌, ◌<◌, ◌≤◌}
use native.Mathlib.Nat.{two-pow-succ}
use native.Mathlib.Omega.{arith}
use lib.Dec.{leb}
use lib.ListN.{length, take, get_or}
use lib.Pow.{pow_pos}
use mir.Syntax.{w32}
use mir.Facts.{Fits-of_z}
use borrow.Author.Tests.{leb-true}
use Rattle.rules.proofs.Tests.{both_true, by_cond, untrue}
use Rattle.packing.specs.Packing.{Below, Fit, repacked, eights, fives}
use Rattle.packing.proofs.Laws.{below_fit, fit_append}
use Rattle.places.proofs.Puts.{put_bytes}
use Rattle.mbc.proofs.RegisterLaws.{registers_known}
use Rattle.mbc.specs.Mbc as mbc
use Rattle.mbc.specs.Mbc.{registers_of}
use Rattle.mbc.proofs.Cases.{lawful}
use Rattle.mbc.proofs.Cartridges.{banks_of_log}
use Rattle.mbc.proofs.Ranges.{in_described, in_held}
use Rattle.mbc.specs.declared.mbc.Mapper.{Mapper}
use Rattle.savelog.proofs.Use.{use_parts}
use Rattle.savelog.specs.Log.{log_limit, use_in_range}
use Rattle.memory.specs.declared.Banks.{Banks}
use Rattle.memory.specs.declared.Core.{Core}
use Rattle.memory.specs.declared.Memory.{Memory}
use Rattle.memory.specs.Ranges.{banks_in_range, state_in_range, in_range, vram_len, wram_len}
use Rattle.memory.proofs.Laws.{range_parts, vram_fits, wram_fits}
use Rattle.image.specs.Layout.{image_len, field_widths, field_values, flags, bit, channels, values, image_of}
use Rattle.image.specs.Load.{storable}
use Rattle.image.specs.Laws.{Typed}
use Rattle.image.specs.Patches.{arrays_of, put, Fits, banks_fields, cartridge_fields, registers_fields, core_fields}
use Rattle.image.proofs.ColorLaws.{channels_length, channels_below}
use Rattle.image.proofs.FieldLaws.{put_in}
use Rattle.image.proofs.Parts.{field_len, bytes_parts}

pub storable_state : (m : Memory) → storable m ≡ true → state_in_range m ≡ true
unfolding storable in_range
storable_state m h = (both_true (state_in_range m) (use_in_range m.core.used log_limit) h).0

pub storable_use : (m : Memory) → storable m ≡ true → m.core.used ≤ log_limit
unfolding storable in_range
storable_use m h = (use_parts m.core.used log_limit (both_true (state_in_range m) (use_in_range m.core.used log_limit) h).1).1

-- Each field within its width

bit_lt : (b : Bool) → bit b < 2
bit_lt true = omega arith
bit_lt false = omega arith

abbrev Bits : List Bool → Type 0
Bits [] = 0 < 1
Bits (b ∷ bs) = (bit b < 2) × Bits bs

flags_lt : (bs : List Bool) → Bits bs
flags_lt [] = omega arith
flags_lt (b ∷ bs) = (bit_lt b, flags_lt bs)

banks_lt : (colour : Bool) (v w : ℕ) → v * 8192 + 8192 ≤ vram_len colour → w * 4096 + 4096 ≤ wram_len colour → (v < 2) × (w < 8)
banks_lt true v w h k = (omega arith, omega arith)
banks_lt false v w h k = (omega arith, omega arith)

wram_lt : (b : Banks) → banks_in_range b ≡ true → (b.vram < 2) × (b.wram < 8)
wram_lt b h = banks_lt b.colour b.vram b.wram (vram_fits b h) (wram_fits b h)

kind_lt : (m : Mapper) → (registers_of m).kind < 4
kind_lt m = let h = leb-true (registers_of m).kind _ (registers_known m) in omega (arith, h)

below_power : (i k : ℕ) → 2 ^ i < 2 ^ k → i < k
below_power i zero h = absurd (omega (arith, pow_pos i))
below_power zero (suc k) h = omega arith
below_power (suc i) (suc k) h = let r = below_power i k (omega (arith, two-pow-succ i, two-pow-succ k)) in omega arith

-- N below 2 to the k has a logarithm below k

below_banks : (log k : ℕ) → mbc.one_of mbc.powers (mbc.banks_of log) ≡ true → mbc.banks_of log < 2 ^ k → log < k
unfolding mbc.banks_of
below_banks log k = by_cond (λ (n : ℕ). mbc.one_of mbc.powers n ≡ true → n < 2 ^ k → log < k) (leb log 9) (2 ^ log) 0 (λ b p h. below_power log k h) (λ b p h. untrue p)

log_lt : (n k : ℕ) → mbc.one_of mbc.powers n ≡ true → n < 2 ^ k → mbc.log2 n < k
log_lt n k p h = let e = banks_of_log n p in below_banks (mbc.log2 n) k (rw e p) (rw e h)

-- the mapper's, which no type bounds
pub slim_registers : (m : Memory) → storable m ≡ true → Fits (registers_fields (registers_of m.core.mapper))
slim_registers m h =
    let c = m.core in
    let p = (range_parts m (storable_state m h)).mapper in
    let r = in_held c.cartridge c.mapper p in
    omega (arith, kind_lt c.mapper, (in_described c.cartridge c.mapper p).most, r.rom, r.ram, r.high, (lawful c.mapper).bits)

described_lt : (m : Memory) → storable m ≡ true → Fits (cartridge_fields m.core.cartridge)
described_lt m h =
    let c = m.core.cartridge in
    let d = in_described c m.core.mapper (range_parts m (storable_state m h)).mapper in
    omega (arith, log_lt c.banks (2 ^ get_or field_widths 21 0) d.power (omega (arith, d.most)), d.code)

pub fields_fit : (m : Memory) → Typed m → storable m ≡ true → Fit field_widths (field_values m.core)
fields_fit m t h =
    let c = m.core in
    let p = range_parts m (storable_state m h) in
    let k = p.clock in
    omega (
      arith,
      flags_lt (flags c),
      t.numbers,
      wram_lt c.banks p.banks,
      k,
      (Fits-of_z {w = w32} t.delay).fits,
      (Fits-of_z {w = w32} t.counter).fits,
      (Fits-of_z {w = w32} t.aux).fits,
      (Fits-of_z {w = w32} t.window).fits,
      slim_registers m h,
      described_lt m h,
      storable_use m h,
    )

-- what fits the layout fits it group by group
module _ (c : Core) (f : Fit field_widths (field_values c)) where
  pub banks_fit : Fits (banks_fields c.banks)
  banks_fit = omega (arith, f)

  pub core_fit : Fits (core_fields c)
  core_fit = omega (arith, f)

-- The image

pub bytes_fit : (m : Memory) → Typed m → Fit (eights 512) (m.oam ++ m.page)
bytes_fit m t =
    fit_append (eights 256) (eights 256) m.oam m.page (below_fit 256 8 m.oam t.oam.0 t.oam.1) (below_fit 256 8 m.page t.page.0 t.page.1)

pub background_fit : (m : Memory) → Typed m → storable m ≡ true → Fit (fives 96) (channels m.background)
background_fit m t h =
    let n = t.background in
    below_fit 96 5 (channels m.background) (channels_length m.background ∙ rw n) (channels_below m.background (range_parts m (storable_state m h)).background)

pub sprites_fit : (m : Memory) → Typed m → storable m ≡ true → Fit (fives 96) (channels m.sprites)
sprites_fit m t h =
    let n = t.sprites in
    below_fit 96 5 (channels m.sprites) (channels_length m.sprites ∙ rw n) (channels_below m.sprites (range_parts m (storable_state m h)).sprites)

pub image_bytes : (m : Memory) → Typed m → storable m ≡ true
    → image_of m
    ≡ (m.oam ++ m.page)
    ++ ((repacked (fives 96) (eights 60) (channels m.background) ++ repacked (fives 96) (eights 60) (channels m.sprites))
    ++ repacked field_widths (eights field_len) (field_values m.core))
unfolding image_of values
image_bytes m t h =
    bytes_parts (m.oam ++ m.page) (channels m.background) (channels m.sprites) (field_values m.core) (bytes_fit m t) (background_fit m t h) (sprites_fit m t h) (fields_fit m t h)

-- the arrays with the fields put behind them
pub image_stored : (m : Memory) → Typed m → storable m ≡ true → (l : List ℕ) → length l ≡ image_len → Below 256 l → take 632 l ≡ arrays_of m
    → put (core_fields m.core) l ≡ image_of m
unfolding arrays_of
image_stored m t h l size below e =
    let f = fields_fit m t h in
    let c = core_fields m.core in
    put_bytes field_widths l (put c l) (field_values m.core) 632 field_len (put_in l size below c (core_fit m.core f)) below size refl
    ∙ ap (λ (x : List ℕ). x ++ repacked field_widths (eights field_len) (field_values m.core)) e
    ∙ append_assoc (m.oam ++ m.page) _ _
    ∙ sym (image_bytes m t h)
