-- What the call makes of the state.
use mathlib.Core.Path.{refl}
use Rattle.dispatch.specs.Step.{state_step}
use Rattle.dispatch.specs.declared.StateCall.TheVariants.{DisableScreen}
use Rattle.lcd.specs.Lcd.{screen_disabled}
use Rattle.registers.specs.State.{on_screen}
use Rattle.quick_screen.proofs.disable_screen.Goals as goal

pub returns : goal.returns
unfolding state_step
returns c = c.on_image.ensures DisableScreen (on_screen screen_disabled) (λ m. refl) (λ a b h p. p)
