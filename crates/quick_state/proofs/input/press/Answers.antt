-- What the call makes of the controller.
use mathlib.Core.Path.{refl}
use Rattle.dispatch.specs.Step.{state_step}
use Rattle.dispatch.specs.declared.StateCall.TheVariants.{Press}
use Rattle.joypad.specs.Joypad.{after_press}
use Rattle.quick_state.proofs.input.press.Goals as goal

pub returns : goal.returns
unfolding state_step
returns c = c.on_controller.ensures (Press c.args.button) after_press (λ m. refl) (λ k r p. p.1)
