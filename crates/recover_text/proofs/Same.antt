-- What `==` answers of slices, as the test of the definitions.
use mathlib.Core.Bool.{true, ◌&&◌}
use mathlib.Core.Path.{◌≡◌, refl, ap}
use mathlib.Core.List.{List, [], ◌∷◌}
use Prim.Native.Nat.{ℕ}
use lib.Dec.{eqb}
use lib.Pointwise.{pointwise}
use borrow.Author.Tests.{eq-eqb}
use Rattle.recover_text.specs.Rows.{same_bytes}

same_refl : (a : List ℕ) → same_bytes a a ≡ true
unfolding same_bytes
same_refl [] = refl
same_refl (x ∷ a) = rw (eq-eqb x x refl, same_refl a)

pub told_same : (a b : List ℕ) → a ≡ b → same_bytes a b ≡ true
told_same a b e = rw e (same_refl b)

pub told_pointwise : (a b : List ℕ) → same_bytes a b ≡ pointwise eqb a b
unfolding same_bytes
told_pointwise [] [] = refl
told_pointwise [] (y ∷ b) = refl
told_pointwise (x ∷ a) [] = refl
told_pointwise (x ∷ a) (y ∷ b) = ap (λ t. eqb x y && t) (told_pointwise a b)
