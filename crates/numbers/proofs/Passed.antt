-- What `?` passes on has the number of the refusal that it met; and no refusal's number is 0 or 1.
use Rattle.std.specs.Prelude.{Result, Ok, Err, ◌≡◌, refl, ◌<◌}
use Rattle.std.specs.Result.{IsErr, IsErrAnd}
use Rattle.std.proofs.Common.{rules}
use Rattle.numbers.specs.Refusal.{refusal_number, number_given}
use Rattle.numbers.specs.declared.Refusal.{Refusal}
use Rattle.numbers.specs.declared.Refusal.TheVariants.{NoRoom, OutOfRange, WrongLength, TooManyCycles, Damaged, Outside}

pub passed : {U : Type 0} (e : Refusal) (r : Result U Refusal) → IsErr r × IsErrAnd r (λ x. x ≡ e) → number_given r ≡ refusal_number e
passed e (Err x) h = rw h.1 refl
passed {U = U} e (Ok _) h = absurd h.1

pub refuses : (e : Refusal) → 1 < refusal_number e
refuses NoRoom = search rules
refuses OutOfRange = search rules
refuses WrongLength = search rules
refuses TooManyCycles = search rules
refuses Damaged = search rules
refuses Outside = search rules
