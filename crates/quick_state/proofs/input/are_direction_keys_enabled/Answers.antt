-- The image, then the question.
use mathlib.Core.Path.{refl}
use Rattle.dispatch.specs.Step.{state_step}
use Rattle.entry.proofs.Held.{due, taken, closed_ask, flag_asked}
use Rattle.refusals.proofs.Answers.{exit}
use Rattle.quick_state.proofs.input.are_direction_keys_enabled.Goals as goal

pub returns-in_err-taken_here : goal.returns-in_err-taken_here
returns-in_err-taken_here c = rw (exit _ _ c.from_residual.ensures.1) (closed_ask _ c.in_err-taken_here.ensures (due _) _ refl)

pub are_direction_keys_enabled-requires : goal.are_direction_keys_enabled-requires
are_direction_keys_enabled-requires c = (taken _ c.in_ok-taken_here.ensures refl (λ i. (c.shared_slice_known-1.given i).fits))

pub returns : goal.returns
unfolding state_step
returns c = flag_asked _ (taken _ c.in_ok-taken_here.ensures refl (λ i. (c.shared_slice_known-1.given i).fits)) _ refl c.are_direction_keys_enabled.ensures refl
