-- Colours and their channels: the turns of the two loops, and the way back.
use mathlib.Core.Bool.{true, ◌&&◌}
use mathlib.Core.Path.{◌≡◌, refl, ap}
use mathlib.Core.List.{List, [], ◌∷◌}
use Prim.Native.Nat.{ℕ, zero, suc, ◌*◌, ◌<◌}
use native.Mathlib.Omega.{arith}
use lib.Dec.{ltb}
use lib.ListN.{length}
use borrow.Author.Tests.{ltb-true, lt-ltb}
use Rattle.rules.proofs.Tests.{both_true}
use Rattle.packing.specs.Packing.{Below}
use Rattle.palette.specs.declared.Color.{Color}
use Rattle.palette.specs.Palette.{in_range, colors_in_range}
use Rattle.image.specs.Layout.{channels}
use Rattle.image.specs.Load.{colors_of}

pub channels_length : (colors : List Color) → length (channels colors) ≡ length colors * 3
channels_length [] = refl
channels_length (c ∷ colors) = let h = channels_length colors in omega arith

-- the way back
pub colors_channels : (colors : List Color) → colors_of (channels colors) ≡ colors
colors_channels [] = refl
colors_channels (c ∷ colors) = ap (λ (l : List Color). c ∷ l) (colors_channels colors)

pub channels_colors : (k : ℕ) (l : List ℕ) → length l ≡ k * 3 → channels (colors_of l) ≡ l
channels_colors zero [] h = refl
channels_colors zero (a ∷ l) h = absurd (omega arith)
channels_colors (suc k) [] h = absurd (omega arith)
channels_colors (suc k) (a ∷ []) h = absurd (omega arith)
channels_colors (suc k) (a ∷ b ∷ []) h = absurd (omega arith)
channels_colors (suc k) (a ∷ b ∷ c ∷ l) h = ap (λ (r : List ℕ). a ∷ b ∷ c ∷ r) (channels_colors k l (omega arith))

-- channels in range
pub three : (c : Color) → in_range c ≡ true → (c.red < 32) × ((c.green < 32) × (c.blue < 32))
unfolding in_range
three c h =
    let s = both_true (ltb c.red 32 && ltb c.green 32) (ltb c.blue 32) h in
    let t = both_true (ltb c.red 32) (ltb c.green 32) s.0 in
    (ltb-true c.red 32 t.0, (ltb-true c.green 32 t.1, ltb-true c.blue 32 s.1))

pub channels_below : (colors : List Color) → colors_in_range colors ≡ true → Below 32 (channels colors)
unfolding colors_in_range
channels_below [] h i = omega arith
channels_below (c ∷ colors) h zero = (three c (both_true (in_range c) (colors_in_range colors) h).0).0
channels_below (c ∷ colors) h (suc zero) = (three c (both_true (in_range c) (colors_in_range colors) h).0).1.0
channels_below (c ∷ colors) h (suc (suc zero)) = (three c (both_true (in_range c) (colors_in_range colors) h).0).1.1
channels_below (c ∷ colors) h (suc (suc (suc i))) = channels_below colors (both_true (in_range c) (colors_in_range colors) h).1 i

-- and back: a channel of five bits is in range
pub below_colors : (l : List ℕ) → Below 32 l → colors_in_range (colors_of l) ≡ true
unfolding colors_in_range in_range
below_colors [] h = refl
below_colors (r ∷ []) h = refl
below_colors (r ∷ g ∷ []) h = refl
below_colors (r ∷ g ∷ b ∷ l) h = rw (lt-ltb r 32 (h 0), lt-ltb g 32 (h 1), lt-ltb b 32 (h 2), below_colors l (λ i. h (suc (suc (suc i)))))
