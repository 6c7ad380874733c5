-- What the call makes of the controller.
use mathlib.Core.Path.{refl}
use Rattle.dispatch.specs.Step.{state_step}
use Rattle.dispatch.specs.declared.StateCall.TheVariants.{Release}
use Rattle.joypad.specs.Joypad.{after_release}
use Rattle.quick_state.proofs.input.release.Goals as goal

pub returns : goal.returns
unfolding state_step
returns c = c.on_controller.ensures (Release c.args.button) after_release (λ m. refl) (λ k r p. p.1)
