-- The tests on a file's first bytes.
use mathlib.Core.Bool.{Bool, true, false, cond, ◌||◌}
use mathlib.Core.Path.{◌≡◌, refl, sym, ◌∙◌}
use mathlib.Core.List.{List, [], ◌∷◌}
use Prim.Native.Nat.{ℕ}
use lib.Dec.{eqb}
use lib.Pointwise.{pointwise}
use borrow.Author.Tests.{eq-eqb, eqb-true}
use Rattle.rules.proofs.Tests.{untrue}
use Rattle.recover_text.specs.Rows.{same_bytes}
use Rattle.recover_text.proofs.Same.{told_pointwise}
use Rattle.recover_messages.specs.Mark.{mark, begun, mark_of}
use Rattle.recover_messages.specs.declared.mark.Mark.TheVariants.{Whole, Torn, Missing}

turned : (x y : ℕ) → eqb x y ≡ eqb y x
turned x y = pick (eqb x y) (eqb y x) refl refl
  where
    pick : (s t : Bool) → eqb x y ≡ s → eqb y x ≡ t → s ≡ t
    pick true true e f = refl
    pick true false e f = sym (eq-eqb y x (sym (eqb-true x y e))) ∙ f
    pick false true e f = sym e ∙ eq-eqb x y (sym (eqb-true y x f))
    pick false false e f = refl

-- `==` from the other side
told_turned : (a b : List ℕ) → same_bytes a b ≡ pointwise eqb b a
unfolding same_bytes
told_turned [] [] = refl
told_turned [] (y ∷ b) = refl
told_turned (x ∷ a) [] = refl
told_turned (x ∷ a) (y ∷ b) = rw (turned x y, told_turned a b)

-- some of the mark, or none
torn_where : (a b c d : Bool) → (a || (b || (c || (d || false)))) ≡ true → Torn ≡ cond a Torn (cond b Torn (cond c Torn (cond d Torn Missing)))
torn_where true b c d e = refl
torn_where false true c d e = refl
torn_where false false true d e = refl
torn_where false false false true e = refl
torn_where false false false false e = untrue e

torn_nowhere : (a b c d : Bool) → (a || (b || (c || (d || false)))) ≡ false → Missing ≡ cond a Torn (cond b Torn (cond c Torn (cond d Torn Missing)))
torn_nowhere true b c d e = untrue (sym e)
torn_nowhere false true c d e = untrue (sym e)
torn_nowhere false false true d e = untrue (sym e)
torn_nowhere false false false true e = untrue (sym e)
torn_nowhere false false false false e = refl

abbrev any_begun : List ℕ → Bool
any_begun first = pointwise eqb (begun 3) first || (pointwise eqb (begun 2) first || (pointwise eqb (begun 1) first || (pointwise eqb (begun 0) first || false)))

module _ (first : List ℕ) where
  pub is_whole : true ≡ pointwise eqb first mark → Whole ≡ mark_of first
  unfolding mark_of
  is_whole e = rw (told_pointwise first mark ∙ sym e)

  module _ (e : false ≡ pointwise eqb first mark) where
    pub is_torn : any_begun first ≡ true → Torn ≡ mark_of first
    unfolding mark_of
    is_torn h =
        rw (told_pointwise first mark ∙ sym e, told_turned first (begun 3), told_turned first (begun 2), told_turned first (begun 1), told_turned first (begun 0))
        (torn_where (pointwise eqb (begun 3) first) (pointwise eqb (begun 2) first) (pointwise eqb (begun 1) first) (pointwise eqb (begun 0) first) h)

    pub is_missing : any_begun first ≡ false → Missing ≡ mark_of first
    unfolding mark_of
    is_missing h =
        rw (told_pointwise first mark ∙ sym e, told_turned first (begun 3), told_turned first (begun 2), told_turned first (begun 1), told_turned first (begun 0))
        (torn_nowhere (pointwise eqb (begun 3) first) (pointwise eqb (begun 2) first) (pointwise eqb (begun 1) first) (pointwise eqb (begun 0) first) h)
