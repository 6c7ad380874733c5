-- What the call makes of the state.
use mathlib.Core.Path.{refl}
use Rattle.dispatch.specs.Step.{state_step}
use Rattle.dispatch.specs.declared.StateCall.TheVariants.{ResetWindowLine}
use Rattle.lcd.specs.Lcd.{window_line_reset}
use Rattle.registers.specs.State.{on_screen}
use Rattle.quick_screen.proofs.reset_window_line.Goals as goal

pub returns : goal.returns
unfolding state_step
returns c = c.on_image.ensures ResetWindowLine (on_screen window_line_reset) (λ m. refl) (λ a b h p. p)
