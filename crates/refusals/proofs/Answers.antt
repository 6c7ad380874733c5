-- How a call answers, by what its refusal is: `?` gives the first refusal that is due, and where there is none the call goes on.
use Rattle.std.proofs.Common.{◌≡◌, ℕ, Bool, true, false, cond, eqb, sym, refl, ap, arith, eqb-true, Result, Ok, Err, IsErrAnd}
use borrow.Author.Tests.{eqb-false}
use Rattle.memory.specs.Ranges.{in_range, state_in_range}
use Rattle.memory.specs.declared.Memory.{Memory}
use Rattle.numbers.specs.Refusal.{number_given, refusal_number}
use Rattle.numbers.specs.declared.Refusal.{Refusal}
use Rattle.numbers.specs.declared.Refusal.TheVariants.{NoRoom, OutOfRange, WrongLength, TooManyCycles, Damaged, Outside}
use Rattle.refusals.specs.Answers.{Done, changed}
use Rattle.refusals.specs.Refusal.{or_else, state_refused}
use Rattle.rules.proofs.Tests.{both_true, passes}

-- a refusal's number is not that of a call that is done
pub refuses : (e : Refusal) → eqb (refusal_number e) 0 ≡ false
refuses NoRoom = refl
refuses OutOfRange = refl
refuses WrongLength = refl
refuses TooManyCycles = refl
refuses Damaged = refl
refuses Outside = refl

-- what a call that goes out by `?` answers
pub exit : {T : Type 0} (r : Result T Refusal) (e : Refusal) → IsErrAnd r (λ y. y ≡ e) → r ≡ Err e
exit (Ok x) e h = absurd h
exit (Err y) e h = ap Err h

-- what a call would give counts only where nothing refuses it
pub where_done : (n : ℕ) (m a b : Memory) → (n ≡ 0 → a ≡ b) → changed n m a ≡ changed n m b
unfolding changed
where_done n m a b f = chosen _ _ _ (eqb n 0) (λ e. rw (f (eqb-true n 0 e)))
  where
    chosen : (x y z : Done) (t : Bool) → (t ≡ true → x ≡ y) → cond t x z ≡ cond t y z
    chosen x y z true g = g refl
    chosen x y z false g = refl

-- none of two refusals is due
pub both_pass : (n k : ℕ) → or_else n k ≡ 0 → (n ≡ 0) × (k ≡ 0)
unfolding or_else
both_pass n k h = by_test (eqb n 0) n k refl h
  where
    by_test : (b : Bool) (n k : ℕ) → b ≡ eqb n 0 → cond b k n ≡ 0 → (n ≡ 0) × (k ≡ 0)
    by_test true n k e h = (eqb-true n 0 (sym e), h)
    by_test false n k e h = absurd (eqb-false n 0 (sym e) h)

-- a state that is not refused is in range
pub state_passes : (m : Memory) (limit : ℕ) → state_refused m limit ≡ 0 → in_range m limit ≡ true
unfolding state_refused
state_passes m limit h = passes (in_range m limit) 3 (omega arith) h

pub range_state : (m : Memory) (limit : ℕ) → in_range m limit ≡ true → state_in_range m ≡ true
unfolding in_range
range_state m limit h = (both_true (state_in_range m) _ h).0
