-- The palettes: a colour is three parts side by side.
use mathlib.Core.Bool.{Bool, true, false, cond}
use mathlib.Core.List.{List}
use mathlib.Core.Path.{◌≡◌, refl, sym, ap, ◌∙◌}
use Prim.Native.Nat.{ℕ, zero, suc, ◌+◌, ◌-◌, ◌*◌, ◌/◌, ◌%◌, ◌^◌, ◌<◌, ◌≤◌}
use native.Mathlib.Omega.{arith}
use lib.Dec.{eqb, ltb}
use lib.ListN.{get_or, length}
use native.Mathlib.Nat.{zero-add}
use Rattle.palette.proofs.Memory.{read_same, read_other}
use borrow.Author.Tests.{eqb-true, eq-eqb, ne_eqb, ltb-true, ltb-false}
use Rattle.palette.specs.Palette.{moved, write_data, with_data}
use Rattle.palette.specs.PanDocs.{address_of, moves, next_address, number_of, channels, low_byte, high_byte, is_high, color_at, byte_at, put_at}
use Rattle.palette.specs.declared.Color.{Color}
use Rattle.palette.specs.declared.Palette.{Palette}
use Rattle.rules.proofs.Tests.{by_cond, cond_both, cond_true, cond_false}
use Rattle.pan_docs.specs.Bits.{bit, low}
use Rattle.pan_docs.specs.Palettes.{colour_bits, place, PaletteBits}
use Rattle.pan_docs.proofs.Bits.{low_mod, bit_zero, bit_shifted, bit_below, bit_above, bit_left, bit_right, is_set_law}

module _ (c : Color) (j : ℕ) where
  abbrev below : ℕ
  below = c.green % 32 * 2 ^ 5 + c.red % 32

  number_parts : number_of c ≡ c.blue % 32 * 2 ^ 10 + below
  number_parts = omega arith

  low_ten : j < 10 → bit (number_of c) j ≡ bit below j
  low_ten h = ap (λ (x : ℕ). bit x j) number_parts ∙ bit_right (c.blue % 32) 10 {r = below} (omega arith) j h

  top : 10 ≤ j → bit (number_of c) j ≡ bit (c.blue % 32) (j - 10)
  top h = ap (λ (x : ℕ). bit x j) number_parts ∙ bit_left (c.blue % 32) 10 {r = below} (omega arith) j h

  colours : bit (number_of c) j ≡ colour_bits c j
  colours =
      by_cond (λ (x : ℕ). bit (number_of c) j ≡ x) (ltb j 5) (bit c.red j) _
      (λ t.
      let h = ltb-true j 5 t in
      low_ten (omega arith) ∙ bit_right (c.green % 32) 5 {r = c.red % 32} (omega arith) j h ∙ bit_below c.red 5 j h)
      (λ f.
      let h = ltb-false j 5 f in
      by_cond (λ (x : ℕ). bit (number_of c) j ≡ x) (ltb j 10) (bit c.green (j - 5)) _
      (λ t.
      let l = ltb-true j 10 t in
      low_ten l ∙ bit_left (c.green % 32) 5 {r = c.red % 32} (omega arith) j h ∙ bit_below c.green 5 (j - 5) (omega arith))
      (λ g.
      let l = ltb-false j 10 g in
      by_cond (λ (x : ℕ). bit (number_of c) j ≡ x) (ltb j 15) (bit c.blue (j - 10)) 0
      (λ t. let k = ltb-true j 15 t in top l ∙ bit_below c.blue 5 (j - 10) (omega arith))
      (λ b. let k = ltb-false j 15 b in top l ∙ bit_above c.blue 5 (j - 10) (omega arith))))

module _ (p : Palette) (v : ℕ) where
  step_up : bit p.index 7 ≡ 1 → (write_data p v).index ≡ 128 + next_address p.index
  unfolding moved
  step_up e = ap (λ (q : Palette). q.index) (cond_true _ _ (with_data p v) (is_set_law p.index 7 ∙ eq-eqb (bit p.index 7) 1 e))

  stays : bit p.index 7 ≡ 0 → (write_data p v).index ≡ p.index
  unfolding moved
  stays e =
      ap (λ (q : Palette). q.index) (cond_false _ _ (with_data p v) (is_set_law p.index 7 ∙ ne_eqb (bit p.index 7) 1 (λ d. omega arith)))

-- the two bytes of a colour
half : (n b j : ℕ) → b < 2 → j < 8 → bit (cond (eqb b 1) (high_byte n) (low_byte n)) j ≡ bit n (b * 8 + j)
half n zero j h l = bit_below n 8 j l ∙ ap (λ (i : ℕ). bit n i) (sym (zero-add j))
half n (suc zero) j h l = bit_shifted n 8 j
half n (suc (suc b)) j h l = absurd (omega arith)

bytes : (colors : List Color) (q c b j : ℕ) → c < 4 → b < 2 → j < 8
    → bit (byte_at colors (place q c b)) j ≡ colour_bits (get_or colors (q * 4 + c) (channels 0)) (b * 8 + j)
unfolding byte_at
bytes colors q c b j h l k =
    let e : place q c b / 2 ≡ q * 4 + c = omega arith in
    let f : place q c b % 2 ≡ b = omega arith in
    let n = number_of (color_at colors (place q c b)) in
    ap (λ (t : Bool). bit (cond t (high_byte n) (low_byte n)) j) (is_set_law (place q c b) 0 ∙ ap (λ (x : ℕ). eqb x 1) (bit_zero (place q c b) ∙ f))
    ∙ half n b j l k
    ∙ colours (color_at colors (place q c b)) (b * 8 + j)
    ∙ ap (λ (i : ℕ). colour_bits (get_or colors i (channels 0)) (b * 8 + j)) e

module _ (p : Palette) (v : ℕ) where
  colours_put : (write_data p v).colors ≡ put_at p.colors (low 6 p.index) v
  unfolding moved
  colours_put =
      let e : (moved (with_data p v)).colors ≡ p.colors = cond_both (λ (q : Palette). q.colors ≡ p.colors) (moves p.index) refl refl in
      ap (λ (l : List Color). put_at l (address_of p.index) v) e ∙ ap (λ (a : ℕ). put_at p.colors a v) (sym (low_mod 6 p.index))

  -- the high byte has seven bits
  seven : (a : ℕ) (t : Bool) (j : ℕ) → is_high a ≡ t → bit a 0 * 8 + j < 15 → bit (cond t (v % 128) v) j ≡ bit v j
  seven a true j e h = let b = eqb-true (bit a 0) 1 (sym (is_set_law a 0) ∙ e) in bit_below v 7 j (omega arith)
  seven a false j e h = refl

  written : (j : ℕ) → length p.colors ≡ 32 → v < 256 → bit (low 6 p.index) 0 * 8 + j < 15
      → bit (byte_at (write_data p v).colors (low 6 p.index)) j ≡ bit v j
  written j l h k =
      let a = low 6 p.index in
      ap (λ (l : List Color). bit (byte_at l a) j) colours_put
      ∙ ap (λ (x : ℕ). bit x j) (read_same p.colors a v h (omega (arith, low_mod 6 p.index)))
      ∙ seven a (is_high a) j refl k

  others : (a : ℕ) → v < 256 → (low 6 p.index ≡ a → ⊥) → byte_at (write_data p v).colors a ≡ byte_at p.colors a
  others a h d = ap (λ (l : List Color). byte_at l a) colours_put ∙ read_other p.colors (low 6 p.index) v h a d

up_low : (x : ℕ) → low 6 (128 + next_address x) ≡ (low 6 x + 1) % 64
up_low x = rw (low_mod 6 (128 + next_address x), low_mod 6 x) (omega arith)

up_high : (x : ℕ) → bit (128 + next_address x) 7 ≡ 1
unfolding bit
up_high x = omega arith

pub palette_bits : PaletteBits
palette_bits =
    record {
      bytes = bytes;
      colours = colours;
      moves =
          λ p v e. (
            ap (λ (x : ℕ). low 6 x) (step_up p v e) ∙ up_low p.index,
            ap (λ (x : ℕ). bit x 7) (step_up p v e) ∙ up_high p.index,
          );
      stays = stays;
      written = written;
      others = others;
    }
