-- What refuses the mapper, or what refuses the rest.
use mathlib.Core.Path.{refl}
use Rattle.entry.proofs.Held.{due}
use Rattle.refusals.proofs.Answers.{exit}
use Rattle.quick_state.proofs.taken_here.Goals as goal

pub returns-in_err-mapper_taken : goal.returns-in_err-mapper_taken
returns-in_err-mapper_taken c = rw (exit _ _ c.from_residual.ensures.1) (c.in_err-mapper_taken.ensures.1 (due _))

pub rest_taken-requires : goal.rest_taken-requires
rest_taken-requires c = c.in_ok-mapper_taken.ensures.0 refl
