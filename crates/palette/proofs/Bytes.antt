-- The sums and quotients of the code against Pan Docs' bytes.
use Rattle.std.specs.List.{list_all}
use mathlib.Core.Bool.{Bool, true, false, cond}
use mathlib.Core.List.{List, [], ◌∷◌}
use mathlib.Core.Path.{◌≡◌, refl, sym, ap, ◌∙◌}
use Prim.Native.Nat.{ℕ, ◌+◌, ◌/◌, ◌%◌}
use native.Mathlib.Omega.{arith}
use lib.Dec.{eqb}
use lib.ListN.{get_or, set}
use borrow.Author.Tests.{eqb-true}
use Rattle.bit_utils.specs.Bits.{is_set}
use Rattle.palette.specs.PanDocs.{address_of, moves, next_address, color_of, is_high, channels, byte_in, color_at, byte_at, put_at}
use Rattle.palette.specs.Palette.{with_data, write_index, moved, colored, write_data, next_index, shown_after, data_written, in_range, colors_in_range}
use Rattle.palette.specs.declared.Color.{Color}
use Rattle.palette.specs.declared.Palette.{Palette}
use Rattle.palette.specs.declared.Written.{Written}

-- bit 0 of the index register is bit 0 of the address
pub half : (v : ℕ) → is_high (address_of v) ≡ is_set v 0
unfolding is_set
half v = let e : v % 64 / 1 % 2 ≡ v / 1 % 2 = omega arith in ap (λ (n : ℕ). eqb n 1) e

pub bit_seven : (i : ℕ) {b : Bool} → b ≡ is_set i 7 → b ≡ true → i / 128 % 2 ≡ 1
unfolding is_set
bit_seven i e f = eqb-true _ _ (sym e ∙ f)

-- what the code's test of bit 7 found is whether the address moves
module _ (i : ℕ) {b : Bool} (e : b ≡ is_set i 7) where
  pub moves_up : b ≡ true → {n : ℕ} → n ≡ 128 + next_address i → n ≡ next_index i
  unfolding next_index
  moves_up f h = rw (← e, f) h

-- a palette's write of data, by the colours that it needs
by_test : (t : Bool) (p : Palette) (n v : ℕ)
    → record {
      index = cond t n p.index;
      «data» = cond t (byte_in (color_at p.colors (address_of (cond t n p.index))) (address_of (cond t n p.index))) v;
      colors = put_at p.colors (address_of p.index) v;
    }
    ≡ colored (cond t (write_index (with_data p v) n) (with_data p v)) p.index v
unfolding byte_at
by_test true p n v = refl
by_test false p n v = refl

pub data_parts : (p : Palette) (v : ℕ) {i k j : ℕ} {w : Written} → i ≡ next_index p.index → k ≡ color_of (address_of p.index)
    → j ≡ color_of (address_of i) → w ≡ data_written p.index (get_or p.colors k (channels 0)) (get_or p.colors j (channels 0)) v
    → record { index = w.index; «data» = w.«data»; colors = set p.colors k w.color } ≡ write_data p v
unfolding moved next_index shown_after put_at
data_parts p v a e f g = rw (g, f, e, a) (by_test (moves p.index) p (128 + next_address p.index) v)

-- a test of each colour
pub all_in_range : (colors : List Color) → list_all in_range colors ≡ colors_in_range colors
unfolding colors_in_range
all_in_range [] = refl
all_in_range (c ∷ colors) = rw (all_in_range colors) refl
