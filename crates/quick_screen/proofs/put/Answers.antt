-- The image, then the field put.
use mathlib.Core.Path.{refl}
use Rattle.entry.proofs.Held.{due, taken}
use Rattle.refusals.proofs.Answers.{exit}
use Rattle.quick_screen.proofs.Numbers.{closed_set, set_done}
use Rattle.quick_screen.proofs.put.Goals as goal

pub returns-in_err-mapper_taken : goal.returns-in_err-mapper_taken
returns-in_err-mapper_taken c = rw (exit _ _ c.from_residual.ensures.1) (closed_set _ (c.in_err-mapper_taken.ensures.1 (due _)) (due _) _)

pub rest_taken-requires : goal.rest_taken-requires
rest_taken-requires c = c.in_ok-mapper_taken.ensures.0 refl

pub returns-in_err-rest_taken : goal.returns-in_err-rest_taken
returns-in_err-rest_taken c = rw (exit _ _ c.from_residual-in_err-rest_taken.ensures.1) (closed_set _ c.in_err-rest_taken.ensures (due _) _)

pub put_number-requires : goal.put_number-requires
put_number-requires c = (taken _ c.in_ok-rest_taken.ensures refl (λ i. (c.slice_known-1.given i).fits))

pub returns : goal.returns
returns c = set_done _ (taken _ c.in_ok-rest_taken.ensures refl (λ i. (c.slice_known-1.given i).fits)) _ c.put_number.ensures
