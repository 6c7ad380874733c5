-- Palette memory is a memory of bytes: a byte that is written is read back, and no other byte changes. So it makes no difference whether the
-- byte that the data register shows after a step is made before the colour is set, as document 01 says, or after.
use mathlib.Core.Bool.{Bool, true, false, cond}
use mathlib.Core.List.{List}
use mathlib.Core.Path.{◌≡◌, refl, sym, ap, ◌∙◌}
use Prim.Native.Nat.{ℕ, zero, suc, ◌+◌, ◌/◌, ◌%◌, ◌<◌}
use native.Mathlib.Nat.{div-div-eq-div-mul}
use native.Mathlib.Omega.{arith}
use lib.Dec.{eqb, ltb}
use lib.ListN.{length}
use lib.Seq.{set_out, get_or-set_same, get_or-set_other}
use borrow.Author.Tests.{eqb-true, eqb-false, ltb-true, ltb-false}
use Rattle.bit_utils.specs.Bits.{is_set}
use Rattle.palette.specs.PanDocs.{
  address_of,
  moves,
  next_address,
  color_of,
  is_high,
  number_of,
  channels,
  low_byte,
  high_byte,
  with_low,
  with_high,
  color_at,
  byte_at,
  put_at,
}
use Rattle.palette.specs.Palette.{with_data, write_index, moved, colored, set_color_palette}
use Rattle.palette.specs.declared.Color.{Color}
use Rattle.palette.specs.declared.Palette.{Palette}

-- one of the two bytes of a number, and the number once it is written
abbrev half : Bool → ℕ → ℕ
half t n = cond t (high_byte n) (low_byte n)

abbrev with_half : Bool → ℕ → ℕ → ℕ
with_half t n v = cond t (with_high n v) (with_low n v)

number_below : (c : Color) → number_of c < 32768
number_below c = omega arith

pub number_channels : (n : ℕ) → n < 32768 → number_of (channels n) ≡ n
number_channels n h =
    let a : n % 32 % 32 ≡ n % 32 = omega arith in
    let b : n / 32 % 32 % 32 ≡ n / 32 % 32 = omega arith in
    let c : n / 1024 % 32 % 32 ≡ n / 1024 = omega arith in
    let d : n / 1024 ≡ n / 32 / 32 = sym (div-div-eq-div-mul n 32 32) in
    rw (a, b, c, d) (omega (arith, d))

module _ (n v : ℕ) (l : n < 32768) (h : v < 256) where
  with_half_below : (t : Bool) → with_half t n v < 32768
  with_half_below true = omega arith
  with_half_below false = omega arith

  half_same : (t : Bool) → half t (with_half t n v) ≡ cond t (v % 128) v
  half_same true = omega arith
  half_same false = omega arith

  half_other : (t u : Bool) → (t ≡ u → ⊥) → half u (with_half t n v) ≡ half u n
  half_other true true d = absurd (d refl)
  half_other true false d = omega arith
  half_other false true d = omega arith
  half_other false false d = absurd (d refl)

bits : (x y : ℕ) → x < 2 → y < 2 → eqb x 1 ≡ eqb y 1 → x ≡ y
bits zero zero h l e = refl
bits (suc zero) (suc zero) h l e = refl
bits zero (suc zero) h l e = cc
bits (suc zero) zero h l e = cc
bits (suc (suc x)) y h l e = absurd (omega arith)
bits zero (suc (suc y)) h l e = absurd (omega arith)
bits (suc zero) (suc (suc y)) h l e = absurd (omega arith)

-- two addresses in one colour are its two bytes
other_half : (a b : ℕ) → (a ≡ b → ⊥) → color_of a ≡ color_of b → is_high a ≡ is_high b → ⊥
unfolding is_set
other_half a b d e f =
    let g : a / 1 % 2 ≡ b / 1 % 2 = bits (a / 1 % 2) (b / 1 % 2) (omega arith) (omega arith) f in
    d (omega arith)

module _ (colors : List Color) (a v : ℕ) (h : v < 256) where
  abbrev put : Color
  put = channels (with_half (is_high a) (number_of (color_at colors a)) v)

  put_number : number_of put ≡ with_half (is_high a) (number_of (color_at colors a)) v
  put_number =
      number_channels _ (with_half_below (number_of (color_at colors a)) v (number_below (color_at colors a)) h (is_high a))

  pub read_same : color_of a < length colors → byte_at (put_at colors a v) a ≡ cond (is_high a) (v % 128) v
  unfolding byte_at put_at
  read_same l =
      ap (λ (c : Color). half (is_high a) (number_of c)) (get_or-set_same colors (color_of a) put (channels 0) l)
      ∙ ap (half (is_high a)) put_number
      ∙ half_same (number_of (color_at colors a)) v (number_below (color_at colors a)) h (is_high a)

  module _ (b : ℕ) (d : a ≡ b → ⊥) where
    elsewhere : (t u : Bool) → eqb (color_of b) (color_of a) ≡ t → ltb (color_of a) (length colors) ≡ u
        → byte_at (put_at colors a v) b ≡ byte_at colors b
    unfolding byte_at put_at
    elsewhere false u e l =
        ap (λ (c : Color). half (is_high b) (number_of c))
        (get_or-set_other colors (color_of a) (color_of b) put (channels 0) (eqb-false _ _ e))
    elsewhere true false e l = rw (set_out colors (color_of a) put (ltb-false _ _ l))
    elsewhere true true e l =
        let s : b / 2 ≡ a / 2 = eqb-true _ _ e in
        rw s
        (ap (λ (c : Color). half (is_high b) (number_of c))
        (get_or-set_same colors (color_of a) put (channels 0) (ltb-true _ _ l))
        ∙ ap (half (is_high b)) put_number
        ∙ half_other (number_of (color_at colors a)) v (number_below (color_at colors a)) h (is_high a) (is_high b)
        (other_half a b d (sym s)))

    pub read_other : byte_at (put_at colors a v) b ≡ byte_at colors b
    read_other = elsewhere (eqb (color_of b) (color_of a)) (ltb (color_of a) (length colors)) refl refl

either_order : (t : Bool) (p : Palette) (n v : ℕ) → v < 256 → (address_of p.index ≡ address_of n → ⊥)
    → cond t (write_index (colored p p.index v) n) (colored p p.index v)
    ≡ colored (cond t (write_index p n) p) p.index v
either_order true p n v h d =
    ap (λ (k : ℕ). with_data (colored (write_index p n) p.index v) k)
    (read_other p.colors (address_of p.index) v h (address_of n) d)
either_order false p n v h d = refl

-- the address moves before the colour is set, or after: the same
pub set_then_move : (p : Palette) (v : ℕ) → v < 256 → moved (colored p p.index v) ≡ set_color_palette p v
unfolding moved
set_then_move p v h =
    either_order (moves p.index) p (128 + next_address p.index) v h
    (λ e. omega arith)
