-- A call over what is lent: what it does where nothing refuses it, and where something does.
use mathlib.Core.Path.{◌≡◌, refl, sym, ◌∙◌}
use Prim.Native.Nat.{ℕ}
use lib.Dec.{eqb}
use borrow.Author.Tests.{eqb-true}
use Rattle.bus.specs.Calls.{Outcome, outcome, unless}
use Rattle.dispatch.proofs.Numbered.{by_unless}
use Rattle.memory.specs.World.{World}
use Rattle.numbers.specs.Numbers.{done}
use Rattle.refusals.specs.Refusal.{or_else}
use Rattle.rules.proofs.Tests.{by_cond}

-- where a call has no number of its own, what refuses it is its number
pub refused_by : (n : ℕ) (w : World) (o : Outcome) → o.number ≡ done → (unless n w o).number ≡ n
refused_by n w o d = by_unless (λ (a : Outcome). a.number ≡ n) n w o (λ z. d ∙ sym z) (λ h. refl)

pub let_in : (n : ℕ) (w : World) (o : Outcome) → n ≡ done → unless n w o ≡ o
let_in n w o z = by_unless (λ (a : Outcome). a ≡ o) n w o (λ e. refl) (λ h. absurd (h z))

pub left_alone : (n : ℕ) (w : World) (o : Outcome) → (n ≡ done → ⊥) → unless n w o ≡ outcome n 0 w
left_alone n w o h = by_unless (λ (a : Outcome). a ≡ outcome n 0 w) n w o (λ z. absurd (h z)) (λ e. refl)

pub or_none : (n : ℕ) → or_else n done ≡ n
unfolding or_else
or_none n = by_cond (λ (k : ℕ). k ≡ n) (eqb n done) done n (λ t. sym (eqb-true n done t)) (λ f. refl)
