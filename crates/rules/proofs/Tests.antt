-- Definitions go by cases, as nested `cond` over tests; code goes by branches. These rulesets carry what a branch showed into the definition:
-- `search tests` is `search rules` with that added, `search cases` is that alone.
use mathlib.Core.Path.{◌≡◌, refl, sym, ap, ◌∙◌}
use mathlib.Core.Bool.{Bool, true, false, cond, not, ◌&&◌, ◌||◌}
use mathlib.Core.Logic.{◌⊎◌, inl, inr}
use borrow.Author.Rules.{rules}
use borrow.Author.Tests.{lt-ltb, le-ltb, le-leb, lt-leb, eq-eqb, ne_eqb, not-true, not-false}
use Prim.Native.Nat.{ℕ, ◌<◌}
use native.Mathlib.Omega.{arith}

pub cond_true : {A : Type 0} (b : Bool) (x y : A) → b ≡ true → cond b x y ≡ x
cond_true b x y e = ap (λ (t : Bool). cond t x y) e

pub cond_false : {A : Type 0} (b : Bool) (x y : A) → b ≡ false → cond b x y ≡ y
cond_false b x y e = ap (λ (t : Bool). cond t x y) e

pub ruleset cases = (cond_true, cond_false, lt-ltb, le-ltb, le-leb, lt-leb, eq-eqb, ne_eqb)

pub ruleset tests = (rules, cases)

-- what a test on `!f(..)` shows of the definition that f's contract names
pub denied : {b e : Bool} → b ≡ e → not b ≡ true → e ≡ false
denied p h = sym p ∙ not-true _ h

pub granted : {b e : Bool} → b ≡ e → not b ≡ false → e ≡ true
granted p h = sym p ∙ not-false _ h

-- false is not true
pub untrue : {A : Type 0} → false ≡ true → A
untrue e = let z : ◌≡◌ {A = ℕ} 0 1 = cc in absurd (omega arith)

-- both sides of an `and` that is true
pub both_true : (a b : Bool) → (a && b) ≡ true → (a ≡ true) × (b ≡ true)
both_true true b h = (refl, h)
both_true false b h = untrue h

-- one side of an `or` that is true
pub or_cases : (a b : Bool) → (a || b) ≡ true → (a ≡ true) ⊎ (b ≡ true)
or_cases true b e = inl refl
or_cases false b e = inr e

-- both sides of one that is false
pub neither : (a b : Bool) → (a || b) ≡ false → (a ≡ false) × (b ≡ false)
neither true b e = untrue (sym e)
neither false b e = (refl, e)

-- what holds of both arms holds of a `cond`
pub by_cond : {A : Type 0} (P : A → Type 0) (b : Bool) (x y : A) → (b ≡ true → P x) → (b ≡ false → P y) → P (cond b x y)
by_cond P true x y t f = t refl
by_cond P false x y t f = f refl

pub cond_both : {A : Type 0} (P : A → Type 0) (b : Bool) {x y : A} → P x → P y → P (cond b x y)
cond_both P true p q = p
cond_both P false p q = q

-- a test whose failure would have been a number other than 0
pub passes : (b : Bool) (k : ℕ) → 0 < k → ◌≡◌ {A = ℕ} (cond b 0 k) 0 → b ≡ true
passes true k h e = refl
passes false k h e = absurd (omega arith)
