-- Image and state go round exactly. The bits go round by the laws of packing for any layout; here are the values: a state's values give the state
-- back, and the values of an image that is accepted are those of its state.
use mathlib.Core.Bool.{Bool, true, false, cond, ◌&&◌}
use mathlib.Core.Path.{◌≡◌, refl, sym, ap, ◌∙◌}
use mathlib.Core.List.{List, ◌++◌, append_assoc}
use Prim.Native.Nat.{ℕ, zero, suc, ◌%◌, ◌^◌, ◌<◌}
use native.Mathlib.Omega.{arith}
use lib.Dec.{eqb}
use lib.ListN.{length, take, drop, length-append, length-drop, take-append-drop}
use lib.Seq.{take_at, drop_at, drop-drop, length-take-le}
use mir.Syntax.{w32}
use mir.Val.{of_z, to_z}
use mir.Facts.{to_z-of_z, of_z-to_z}
use borrow.Author.Tests.{leb-true, eqb-true, eq-eqb}
use Rattle.rules.proofs.Tests.{both_true, by_cond, untrue}
use Rattle.numbers.specs.Numbers.{done, out_of_range, wrong_length}
use Rattle.packing.specs.Packing.{Fit, Below, unpacked, repacked, eights, fives}
use Rattle.packing.proofs.Laws.{fit_append, fit_below}
use Rattle.places.specs.Places.{number}
use Rattle.mbc.specs.Mbc as mbc
use Rattle.mbc.proofs.Cartridges.{banks_of_log, log_of_banks}
use Rattle.mbc.proofs.Ranges.{in_described}
use Rattle.mbc.proofs.RegisterLaws.{mapper_of_registers, registers_sound, registers_of_mapper}
use Rattle.memory.specs.declared.Memory.{Memory}
use Rattle.memory.specs.Start.{zeroed}
use Rattle.memory.proofs.Laws.{range_parts}
use Rattle.image.specs.Layout.{image_len, field_widths, zeros_field, widths, channels, bit, field_values, values, image_of}
use Rattle.image.specs.Load.{cartridge_of, registers_in, core_from, at, sound, storable, Loaded, loaded, values_of, bytes_in, colors_in, all_fields_in, state_from, state_of, load_call}
use Rattle.image.specs.Laws.{Typed, StateBack, ImageBack}
use Rattle.image.proofs.ColorLaws.{channels_length, colors_channels, channels_colors}
use Rattle.image.proofs.FieldLaws.{fields_in, fields_number, image_of_values}
use Rattle.image.proofs.Parts.{repacked_length, repacked_fit, repacked_back, joined}
use Rattle.image.proofs.StateLaws.{storable_state, fields_fit, bytes_fit, background_fit, sprites_fit}
use Rattle.image.proofs.LoadLaws.{made_same, all_same}

-- Single fields, both ways

bit_back : (b : Bool) → eqb (bit b) 1 ≡ b
bit_back true = refl
bit_back false = refl

below_bit : (n : ℕ) → n < 2 → bit (eqb n 1) ≡ n
below_bit zero h = refl
below_bit (suc zero) h = refl
below_bit (suc (suc n)) h = absurd (omega arith)

bit_again : (n : ℕ) → bit (eqb (n % 2) 1) ≡ n % 2
bit_again n = below_bit (n % 2) (omega arith)

signed_again : (n : ℕ) → of_z w32 (to_z w32 (n % 2 ^ 32)) ≡ n % 2 ^ 32
signed_again n = of_z-to_z {w = w32} {n = n % 2 ^ 32} (record { fits = omega arith })

-- a logarithm past the last gives 0 banks, which no cartridge has
log_again : (n : ℕ) → mbc.one_of mbc.powers (mbc.banks_of n) ≡ true → mbc.log2 (mbc.banks_of n) ≡ n
unfolding mbc.banks_of
log_again n =
    by_cond (λ (k : ℕ). mbc.one_of mbc.powers k ≡ true → mbc.log2 (mbc.banks_of n) ≡ n) _ _ _ (λ b h. log_of_banks n (leb-true n _ b)) (λ b h. untrue h)

-- State, image, state

load_by : (l vs : List ℕ) → length l ≡ image_len → values_of l ≡ vs → sound (all_fields_in vs) ≡ true
    → storable (state_from (bytes_in vs) (colors_in vs) (all_fields_in vs)) ≡ true
    → load_call l ≡ loaded done (state_from (bytes_in vs) (colors_in vs) (all_fields_in vs))
unfolding load_call state_of
load_by l vs n e s k = rw (eq-eqb (length l) image_len n, e, s, k)

module _ (m : Memory) (t : Typed m) (h : storable m ≡ true) where
  values_fit : Fit widths (values m)
  unfolding widths values
  values_fit =
      fit_append (eights 512) (fives 192 ++ field_widths) (m.oam ++ m.page) ((channels m.background ++ channels m.sprites) ++ field_values m.core) (bytes_fit m t)
      (fit_append (fives 192) field_widths (channels m.background ++ channels m.sprites) (field_values m.core)
      (fit_append (fives 96) (fives 96) (channels m.background) (channels m.sprites) (background_fit m t h) (sprites_fit m t h)) (fields_fit m t h))

  pub values_back : values_of (image_of m) ≡ values m
  unfolding values_of image_of widths
  values_back = repacked_back widths (eights image_len) (values m) refl values_fit

  bytes_long : length (m.oam ++ m.page) ≡ 512
  bytes_long = let a = t.oam.0 in let b = t.page.0 in length-append m.oam m.page ∙ rw (a, b)

  background_long : length (channels m.background) ≡ 96
  background_long = let a = t.background in channels_length m.background ∙ rw a

  colors_long : length (channels m.background ++ channels m.sprites) ≡ 192
  colors_long =
      let a = t.sprites in
      let b : length (channels m.sprites) ≡ 96 = channels_length m.sprites ∙ rw a in
      length-append (channels m.background) (channels m.sprites) ∙ rw (background_long, b)

  pub bytes_of_values : bytes_in (values m) ≡ m.oam ++ m.page
  unfolding values
  bytes_of_values = take_at (m.oam ++ m.page) _ 512 bytes_long

  pub rest_of_values : drop 512 (values m) ≡ (channels m.background ++ channels m.sprites) ++ field_values m.core
  unfolding values
  rest_of_values = drop_at (m.oam ++ m.page) _ 512 bytes_long

  colors_of_values : colors_in (values m) ≡ channels m.background ++ channels m.sprites
  colors_of_values = ap (take 192) rest_of_values ∙ take_at (channels m.background ++ channels m.sprites) (field_values m.core) 192 colors_long

  pub fields_of_values : all_fields_in (values m) ≡ field_values m.core
  fields_of_values =
      sym (drop-drop 192 512 (values m)) ∙ ap (drop 192) rest_of_values
      ∙ drop_at (channels m.background ++ channels m.sprites) (field_values m.core) 192 colors_long

  pub front_of_values : take 704 (values m) ≡ (m.oam ++ m.page) ++ (channels m.background ++ channels m.sprites)
  unfolding values
  front_of_values =
      let x = m.oam ++ m.page in
      let y = channels m.background ++ channels m.sprites in
      ap (take 704) (sym (append_assoc x y (field_values m.core)))
      ∙ take_at (x ++ y) (field_values m.core) 704 (length-append x y ∙ rw (bytes_long, colors_long))

  cartridge_back : mbc.banks_of (mbc.log2 m.core.cartridge.banks) ≡ m.core.cartridge.banks
  cartridge_back =
      banks_of_log m.core.cartridge.banks (in_described m.core.cartridge m.core.mapper (range_parts m (storable_state m h)).mapper).power

  mapper_back : mbc.mapper_of (registers_in (field_values m.core)) ≡ m.core.mapper
  mapper_back = mapper_of_registers m.core.mapper

  core_back : core_from (field_values m.core) ≡ m.core
  core_back = simp (bit_back, to_z-of_z t.delay, to_z-of_z t.counter, to_z-of_z t.aux, to_z-of_z t.window, cartridge_back, mapper_back)

  state_of_values : state_from (bytes_in (values m)) (colors_in (values m)) (all_fields_in (values m)) ≡ m
  state_of_values =
      let b = channels m.background in
      let s = channels m.sprites in
      made_same (ap (take 256) bytes_of_values ∙ take_at m.oam m.page 256 t.oam.0)
      (ap (drop 256) bytes_of_values ∙ drop_at m.oam m.page 256 t.oam.0)
      (ap (take 96) colors_of_values ∙ take_at b s 96 background_long)
      (ap (drop 96) colors_of_values ∙ drop_at b s 96 background_long)
      fields_of_values
      ∙ all_same refl refl (colors_channels m.background) (colors_channels m.sprites) core_back

  sound_values : sound (all_fields_in (values m)) ≡ true
  unfolding sound
  sound_values = ap sound fields_of_values ∙ rw (registers_sound m.core.mapper)

  state_loaded : load_call (image_of m) ≡ loaded done m
  unfolding image_of
  state_loaded =
      load_by (image_of m) (values m) (repacked_length widths (eights image_len) (values m)) values_back sound_values (ap storable state_of_values ∙ h)
      ∙ ap (loaded done) state_of_values

pub state_back : StateBack
unfolding image_of
state_back m t h = (
  repacked_length widths (eights image_len) (values m),
  (fit_below image_len 8 (image_of m) (omega arith) (repacked_fit widths (eights image_len) (values m)), state_loaded m t h),
)

-- Image, state, image

-- N is one that a cartridge has
abbrev is_power : List ℕ → Bool
is_power fs = mbc.one_of mbc.powers (cartridge_of fs).banks

fields_again : (n : ℕ) → sound (unpacked field_widths n) ≡ true → is_power (unpacked field_widths n) ≡ true
    → field_values (core_from (unpacked field_widths n)) ≡ unpacked field_widths n
unfolding sound
fields_again n h k =
    let fs = unpacked field_widths n in
    let g = both_true (mbc.sound (registers_in fs)) (eqb (at fs zeros_field) 0) h in
    simp (bit_again, signed_again, log_again (at fs 21) k, registers_of_mapper (registers_in fs) g.0, eqb-true (at fs zeros_field) 0 g.1)

values_again : (vs : List ℕ) → length vs ≡ length widths
    → field_values (core_from (all_fields_in vs)) ≡ all_fields_in vs
    → values (state_from (bytes_in vs) (colors_in vs) (all_fields_in vs)) ≡ vs
unfolding values widths
values_again vs n e =
    let b = bytes_in vs in
    let c = colors_in vs in
    let k : length c ≡ 192 = length-take-le 192 (drop 512 vs) (rw length-drop (omega arith)) in
    let t : length (take 96 c) ≡ 96 = length-take-le 96 c (omega arith) in
    let d : length (drop 96 c) ≡ 96 = rw length-drop (omega arith) in
    joined (take-append-drop 256 b) (joined (joined (channels_colors 32 (take 96 c) t) (channels_colors 32 (drop 96 c) d) ∙ take-append-drop 96 c) e)
    ∙ ap (λ (x : List ℕ). b ++ (c ++ x)) (sym (drop-drop 192 512 vs))
    ∙ ap (λ (x : List ℕ). b ++ x) (take-append-drop 192 (drop 512 vs))
    ∙ take-append-drop 512 vs

pub number_done : (a b : Bool) (m : Memory) → (cond a (cond b (loaded done m) (loaded out_of_range zeroed)) (loaded wrong_length zeroed)).number ≡ done
    → (a ≡ true) × (b ≡ true)
number_done true true m h = (refl, refl)
number_done true false m h = absurd (omega arith)
number_done false b m h = absurd (omega arith)

values_length : (l : List ℕ) → length (values_of l) ≡ length widths
unfolding values_of
values_length l = repacked_length (eights image_len) widths l

module _ (l : List ℕ) (size : length l ≡ image_len) (below : Below 256 l) (h : sound (all_fields_in (values_of l)) ≡ true)
    (k : storable (state_of l) ≡ true) where
  power_in : is_power (all_fields_in (values_of l)) ≡ true
  unfolding state_of
  power_in =
      let m = state_of l in
      (in_described m.core.cartridge m.core.mapper (range_parts m (storable_state m k)).mapper).power

  fields_kept : field_values (core_from (all_fields_in (values_of l))) ≡ all_fields_in (values_of l)
  fields_kept =
      let e = fields_in l size ∙ fields_number l size in
      ap (λ (fs : List ℕ). field_values (core_from fs)) e
      ∙ fields_again (number l) (sym (ap sound e) ∙ h) (sym (ap is_power e) ∙ power_in)
      ∙ sym e

  image_again : image_of (state_of l) ≡ l
  unfolding image_of state_of
  image_again =
      ap (repacked widths (eights image_len)) (values_again (values_of l) (values_length l) fields_kept)
      ∙ image_of_values l size below

pub image_back : ImageBack
unfolding load_call
image_back l below h =
    let a = number_done (eqb (length l) image_len) (sound (all_fields_in (values_of l)) && storable (state_of l)) (state_of l) h in
    let c = both_true (sound (all_fields_in (values_of l))) (storable (state_of l)) a.1 in
    let e : load_call l ≡ loaded done (state_of l) = rw (a.0, a.1) in
    (ap (λ (r : Loaded). storable r.state) e ∙ c.1, ap (λ (r : Loaded). image_of r.state) e ∙ image_again l (eqb-true (length l) image_len a.0) below c.0 c.1)
