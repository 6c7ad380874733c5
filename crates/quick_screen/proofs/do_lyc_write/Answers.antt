-- What the call makes of the state.
use mathlib.Core.Path.{refl}
use borrow.Author.Rules.{rules}
use Rattle.dispatch.specs.Step.{state_step}
use Rattle.dispatch.specs.declared.StateCall.TheVariants.{DoLycWrite}
use Rattle.lcd.specs.Lcd.{lyc_written}
use Rattle.registers.specs.State.{on_screen}
use Rattle.quick_screen.proofs.do_lyc_write.Goals as goal

pub returns : goal.returns
unfolding state_step
returns c = c.on_image.ensures (DoLycWrite c.args.value) (on_screen (λ s. lyc_written s c.args.value)) (λ m. refl) (λ a b h p. search rules)
