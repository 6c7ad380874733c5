-- The image, then the call on it.
use mathlib.Core.Path.{refl}
use Rattle.dispatch.specs.Step.{state_step}
use Rattle.entry.proofs.Held.{due, taken, closed_state, state_done}
use Rattle.refusals.proofs.Answers.{exit}
use Rattle.quick_state.proofs.input.update_joypad.Goals as goal

pub returns-in_err-taken_here : goal.returns-in_err-taken_here
returns-in_err-taken_here c = rw (exit _ _ c.from_residual.ensures.1) (closed_state _ c.in_err-taken_here.ensures (due _) _)

pub update_joypad-requires : goal.update_joypad-requires
update_joypad-requires c = (taken _ c.in_ok-taken_here.ensures refl (λ i. (c.slice_known-1.given i).fits))

pub returns : goal.returns
unfolding state_step
returns c = state_done _ (taken _ c.in_ok-taken_here.ensures refl (λ i. (c.slice_known-1.given i).fits)) _ _ refl c.update_joypad.ensures
