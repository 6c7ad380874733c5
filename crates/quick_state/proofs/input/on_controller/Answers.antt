-- The image, the button, then the joypad put.
use mathlib.Core.Path.{refl}
use Rattle.joypad.specs.Joypad.{named}
use Rattle.entry.proofs.Held.{due, taken, closed_state}
use Rattle.refusals.proofs.Answers.{exit}
use Rattle.quick_state.proofs.Calls.{button_refused, button_done}
use Rattle.quick_state.proofs.input.on_controller.Goals as goal

pub returns-in_err-taken_here : goal.returns-in_err-taken_here
returns-in_err-taken_here g c = λ d f s p. rw (exit _ _ c.from_residual.ensures.1) (closed_state _ c.in_err-taken_here.ensures (due _) d)

pub controller_at-controller-requires : goal.controller_at-controller-requires
controller_at-controller-requires g c = (taken _ c.in_ok-taken_here.ensures refl (λ i. (c.slice_known-1.given i).fits))

pub returns-in_err-after : goal.returns-in_err-after
returns-in_err-after g c = λ d f s p. rw (exit _ _ c.from_residual-in_err-after.ensures.1)
    (button_refused _ (taken _ c.in_ok-taken_here.ensures refl (λ i. (c.slice_known-1.given i).fits)) d f (named c.args.button) (s _) c.controller_at-controller.ensures (p _ _ c.in_err-after.ensures) (due _))

pub put_controller-requires : goal.put_controller-requires
put_controller-requires g c = (taken _ c.in_ok-taken_here.ensures refl (λ i. (c.slice_known-1.given i).fits))

pub returns : goal.returns
returns g c = λ d f s p. button_done _ (taken _ c.in_ok-taken_here.ensures refl (λ i. (c.slice_known-1.given i).fits)) d f (named c.args.button) (s _) c.controller_at-controller.ensures (p _ _ c.in_ok-after.ensures) refl c.put_controller.ensures
