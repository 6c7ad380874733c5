-- Laws of the tests that the ranges are made of: `&&`, `one_of`, `implies`. They go both ways between a test and what it says.
use mathlib.Core.Path.{◌≡◌, refl, sym, subst, ◌∙◌}
use mathlib.Core.Bool.{Bool, true, false, ◌&&◌, ◌||◌, or-true}
use mathlib.Core.List.{List, [], ◌∷◌}
use mathlib.Core.Logic.{◌⊎◌, inl, inr, ⊎_elim}
use Prim.Native.Nat.{ℕ, zero, suc, ◌<◌}
use native.Mathlib.Omega.{arith}
use lib.Dec.{eqb}
use borrow.Author.Tests.{eq-eqb, eqb-true, not-true}
use Rattle.rules.proofs.Tests.{or_cases, untrue}
use Rattle.mbc.specs.Mbc.{one_of, implies}

pub and_left : (a b : Bool) → (a && b) ≡ true → a ≡ true
and_left true b e = refl
and_left false b e = e

pub and_right : (a b : Bool) → (a && b) ≡ true → b ≡ true
and_right true b e = e
and_right false b e = let z : true ≡ true = refl in cc

-- n is x or one of xs, as the arms of a `match` say it
abbrev pub Among : ℕ → List ℕ → ℕ → Type 0
Among x [] n = n ≡ x
Among x (y ∷ ys) n = (n ≡ x) ⊎ Among y ys n

pub among : (x : ℕ) (xs : List ℕ) (n : ℕ) → Among x xs n → one_of (x ∷ xs) n ≡ true
among x [] n e = rw (eq-eqb n x e)
among x (y ∷ ys) n (inl e) = rw (eq-eqb n x e)
among x (y ∷ ys) n (inr h) = rw (among y ys n h) (or-true (eqb n x))

pub implied : (a b : Bool) → implies a b ≡ true → a ≡ true → b ≡ true
implied a true e h = refl
implied a false e h = sym (not-true a e) ∙ h

-- what holds of each of some numbers holds of one of them
abbrev pub All : (ℕ → Type 0) → List ℕ → Type 0
All P [] = Unit {0}
All P (x ∷ xs) = P x × All P xs

pub of_one : (P : ℕ → Type 0) (xs : List ℕ) → All P xs → (n : ℕ) → one_of xs n ≡ true → P n
of_one P [] all n e = untrue e
of_one P (x ∷ xs) all n e =
    ⊎_elim (λ h. subst P (sym (eqb-true n x h)) all.0) (λ h. of_one P xs all.1 n h) (or_cases (eqb n x) (one_of xs n) e)

pub and_implied : (a b : Bool) → (a ≡ true → b ≡ true) → (a && b) ≡ a
and_implied true b h = h refl
and_implied false b h = refl

-- what two conditions need, the second alone needs
pub weaker : (a b d : Bool) → implies (a || b) d ≡ true → implies b d ≡ true
weaker a b true e = refl
weaker true b false e = let z : true ≡ true = refl in cc
weaker false b false e = e

-- what is computed of all the numbers below n holds of each
abbrev pub every : ℕ → (ℕ → Bool) → Bool
every zero p = true
every (suc n) p = p zero && every n (λ k. p (suc k))

pub every_at : (n : ℕ) (p : ℕ → Bool) → every n p ≡ true → (k : ℕ) → k < n → p k ≡ true
every_at zero p e k h = absurd (omega arith)
every_at (suc n) p e zero h = and_left (p zero) (every n (λ k. p (suc k))) e
every_at (suc n) p e (suc k) h = every_at n (λ k. p (suc k)) (and_right (p zero) (every n (λ k. p (suc k))) e) k (omega arith)
