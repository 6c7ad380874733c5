-- Document 01, "How much a contract must say": "show that no second outcome fits". What a contract says of a call's result and of what is lent to it for
-- writing, as the call leaves that, has a name in the crate of the call, which the contract cites; this is said of it there.
use Rattle.std.specs.Prelude.{◌≡◌, ℕ, Result}
use Rattle.std.specs.Result.{result_unwrap_or}
use Rattle.numbers.specs.Refusal.{number_given}
use Rattle.numbers.specs.declared.Refusal.{Refusal}

-- two that meet it are the same
abbrev pub OnlyOne : {R B : Type 0} → (R → B → Type 0) → Type 0
OnlyOne {R} {B} says = (p q : R) (a b : B) → says p a → says q b → (p ≡ q) × (a ≡ b)

-- Where a contract speaks of an answer's number, that is no less than the answer: two that have the same number, and give the same where they are done, are
-- the same. `one_answer` has this as its contract.
pub record OneAnswer : Type 0 where
  pub nothing : (r s : Result (Unit {0}) Refusal) → number_given r ≡ number_given s → r ≡ s
  pub length : (d : ℕ) (r s : Result ℕ Refusal) → number_given r ≡ number_given s → result_unwrap_or r d ≡ result_unwrap_or s d → r ≡ s
