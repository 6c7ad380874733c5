-- A mapper's fields as one number: its parts are the fields, and what is asked of them is asked of the number.
use mathlib.Core.Bool.{true, ◌&&◌}
use mathlib.Core.List.{List}
use mathlib.Core.Logic.{inl, inr}
use mathlib.Core.Path.{◌≡◌, sym, ap, ◌∙◌}
use Prim.Native.Nat.{ℕ, ◌+◌, ◌-◌, ◌*◌, ◌/◌, ◌%◌, ◌^◌, ◌<◌, ◌≤◌}
use native.Mathlib.Omega.{arith}
use lib.ListN.{length}
use borrow.Author.Tests.{le-leb}
use Rattle.std.proofs.Common.{Option, Some, None, IfSome, is_some}
use Rattle.rules.proofs.Tests.{untrue}
use Rattle.places.specs.Places.{field_at}
use Rattle.places.proofs.Laws.{inner_field}
use Rattle.mbc.specs.Mbc as mbc
use Rattle.mbc.proofs.Cartridges.{but_1, has_banks_7, has_banks_4, banks_power_of}
use Rattle.mbc.proofs.Enough.{Ramful, enough_rom_only, enough_mbc1, enough_mbc2, enough_mbc5, enough_mbc5_wide, ram_len_banked}
use Rattle.mbc.specs.declared.cartridge.Cartridge.{Cartridge}
use Rattle.mbc.specs.declared.held.Registers.{Registers}
use Rattle.image.specs.Layout.{image_len}
use Rattle.image.specs.Load.{at, cartridge_of, registers_in}
use Rattle.image.specs.Patches.{fields, mapping_number, part, cartridge_by, registers_by, mapper_by, CommonKind, Common, mapper_fits, Mapped, MapperFits}

module _ (l : List ℕ) (size : length l ≡ image_len) where
  -- a part that k bits stand behind
  inner : (k m : ℕ) → k + m ≤ 26 → mapping_number l / 2 ^ k % 2 ^ m ≡ field_at l (5283 + (26 - (k + m))) m
  unfolding mapping_number
  inner k m h = inner_field l 5283 26 k m h (omega (arith, size))

  pub kind_part : part (mapping_number l) 0 ≡ at (fields l) 20
  kind_part = inner 24 2 (search arith)

  pub log_part : part (mapping_number l) 1 ≡ at (fields l) 21
  log_part = inner 20 4 (search arith)

  pub code_part : part (mapping_number l) 2 ≡ at (fields l) 22
  code_part = inner 17 3 (search arith)

  pub rom_part : part (mapping_number l) 3 ≡ at (fields l) 23
  rom_part = inner 8 9 (search arith)

  pub ram_part : part (mapping_number l) 4 ≡ at (fields l) 24
  ram_part = inner 4 4 (search arith)

  pub mode_part : part (mapping_number l) 5 ≡ at (fields l) 25
  mode_part = inner 3 1 (search arith)

  pub enabled_part : part (mapping_number l) 6 ≡ at (fields l) 26
  enabled_part = inner 2 1 (search arith)

  pub high_part : part (mapping_number l) 7 ≡ at (fields l) 27
  high_part = inner 0 2 (search arith)

  pub cartridge_by_law : cartridge_by (mapping_number l) ≡ cartridge_of (fields l)
  cartridge_by_law = rw (log_part, code_part)

  pub registers_by_law : registers_by (mapping_number l) ≡ registers_in (fields l)
  registers_by_law = rw (kind_part, rom_part, ram_part, mode_part, enabled_part, high_part)

  pub mapper_by_law : mapper_by (mapping_number l) ≡ mapper_fits (fields l)
  mapper_by_law =
      ap (λ (r : Registers). mbc.sound r && mbc.in_range (cartridge_by (mapping_number l)) (mbc.mapper_of r)) registers_by_law
      ∙ ap (λ (c : Cartridge). mbc.sound (registers_in (fields l)) && mbc.in_range c (mbc.mapper_of (registers_in (fields l)))) cartridge_by_law

pub mapped_by : (l : List ℕ) {n : ℕ} → length l ≡ image_len → n ≡ mapping_number l → mapper_by n ≡ true → Mapped l
mapped_by l size e h = record { size = size; mapper = sym (mapper_by_law l size) ∙ ap mapper_by (sym e) ∙ h }

-- by the commonest mappers' tests
pub common_by : (n : ℕ) (o : Option ℕ) → IfSome o (Common n) → is_some o ≡ true → mapper_by n ≡ true
common_by n (Some s) h e = h.fits
common_by n None h e = untrue e

-- and with the lengths of what is lent beside the image, where the commonest mappers' tests pass
pub common_lent : (l : List ℕ) (n rom save s : ℕ) → length l ≡ image_len → n ≡ mapping_number l → Common n s → rom ≡ 2 ^ (n / 1048576 % 8) * 0x4000 → save ≡ s
    → MapperFits l rom save
common_lent l n rom save s size e f r g =
    let low : n / 1048576 % 8 ≡ n / 1048576 % 16 = omega (arith, f.log) in
    let banks : 2 ^ (n / 1048576 % 8) ≡ mbc.banks_of (part n 1) = ap (λ (k : ℕ). 2 ^ k) low ∙ sym (banks_power_of (part n 1) (omega (arith, f.log))) in
    let k : cartridge_by n ≡ cartridge_of (fields l) = ap cartridge_by e ∙ cartridge_by_law l size in
    let m : mbc.mapper_of (registers_by n) ≡ mbc.mapper_of (registers_in (fields l)) = ap mbc.mapper_of (ap registers_by e ∙ registers_by_law l size) in
    record {
      size = size;
      mapper = (mapped_by l size e f.fits).mapper;
      rom = r ∙ ap (λ (b : ℕ). b * 0x4000) banks ∙ ap mbc.rom_len k;
      save = g ∙ f.save ∙ ap (λ (c : Cartridge). mbc.ram_len c (mbc.mapper_of (registers_by n))) k ∙ ap (mbc.ram_len (cartridge_of (fields l))) m;
    }

-- What the tests on the number are enough for

two_banks : (log code : ℕ) → log ≡ 1 → mbc.has_banks 2 (mbc.cartridge_of (mbc.banks_of log) code) ≡ true
unfolding mbc.has_banks mbc.banks_of
two_banks log code e = rw e

-- a code to 3 is one of the three, or 1
pub other_code : (banks code : ℕ) → code ≤ 3 → (code ≡ 1 → ⊥) → mbc.has_code 3 (mbc.cartridge_of banks code) ≡ true
unfolding mbc.has_code
other_code banks code h other = rw (le-leb code 3 h, ← but_1 code other) (le-leb code 4 (omega (arith, h)))

module _ (n : ℕ) where
  kind_not_2 : CommonKind n → part n 0 ≡ mbc.kind_mbc2 → ⊥
  kind_not_2 (inl k) e = omega (arith, k, e)
  kind_not_2 (inr k) e = omega (arith, k.0, e)

  pub common_fits : CommonKind n → part n 1 ≤ 7 → 1 ≤ part n 1 → part n 3 < mbc.banks_of (part n 1) → Ramful (cartridge_by n) (registers_by n) → mapper_by n ≡ true
  common_fits (inl k) most least rom ram =
      enough_mbc1 (cartridge_by n) (registers_by n) k (omega arith) (omega arith) (omega arith) (has_banks_7 (part n 1) (part n 2) least most).0 rom ram
  common_fits (inr k) most least rom ram =
      enough_mbc5 (cartridge_by n) (registers_by n) k.0 k.1.0 (omega arith) k.1.1 (has_banks_7 (part n 1) (part n 2) least most).1 rom ram

  -- RAM code 4
  pub wide_fits : CommonKind n → part n 0 ≡ mbc.kind_mbc5 → part n 1 ≤ 7 → 1 ≤ part n 1 → part n 3 < mbc.banks_of (part n 1) → part n 2 ≡ 4 → mapper_by n ≡ true
  wide_fits (inl k) e most least rom code = absurd (omega (arith, k, e))
  wide_fits (inr k) e most least rom code =
      enough_mbc5_wide (cartridge_by n) (registers_by n) e k.1.0 (omega arith) (omega arith) k.1.1 (has_banks_7 (part n 1) (part n 2) least most).1 rom code

  pub common : CommonKind n → part n 1 ≤ 7 → mapper_by n ≡ true → (s : ℕ) → mbc.ram_banks (part n 2) * 0x2000 ≡ s → Common n s
  common k most fits s e =
      record { fits = fits; log = most; save = sym e ∙ sym (ram_len_banked (cartridge_by n) (registers_by n) (kind_not_2 k)) }

  pub rom_only_fits : part n 0 ≡ mbc.kind_rom_only → part n 1 ≡ 1 → part n 3 ≡ 1 → part n 4 ≡ 0 → part n 5 ≡ 0 → part n 6 ≡ 0 → part n 7 ≡ 0
      → mbc.has_code 3 (cartridge_by n) ≡ true → mapper_by n ≡ true
  rom_only_fits k log rom ram mode enabled high code =
      enough_rom_only (cartridge_by n) (registers_by n) k rom ram mode enabled high (two_banks (part n 1) (part n 2) log) code

  pub mbc2_fits : part n 0 ≡ mbc.kind_mbc2 → part n 1 ≤ 4 → 1 ≤ part n 1 → part n 2 ≡ 0 → part n 3 < mbc.banks_of (part n 1) → part n 4 ≡ 0 → part n 5 ≡ 0 → part n 7 ≡ 0
      → mapper_by n ≡ true
  mbc2_fits k most least code rom ram mode high =
      enough_mbc2 (cartridge_by n) (registers_by n) k ram mode (omega arith) high (has_banks_4 (part n 1) (part n 2) least most) code rom
