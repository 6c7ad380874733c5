-- What the call makes of the state.
use mathlib.Core.Path.{refl}
use Rattle.dispatch.specs.Step.{state_step}
use Rattle.dispatch.specs.declared.StateCall.TheVariants.{CompareLyToLyc}
use Rattle.lcd.specs.Lcd.{ly_compared}
use Rattle.registers.specs.State.{on_screen}
use Rattle.quick_screen.proofs.compare_ly_to_lyc.Goals as goal

pub returns : goal.returns
unfolding state_step
returns c = c.on_image.ensures CompareLyToLyc (on_screen ly_compared) (λ m. refl) (λ a b h p. p)
