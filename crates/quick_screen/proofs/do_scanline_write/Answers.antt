-- What the call makes of the state.
use mathlib.Core.Path.{refl}
use borrow.Author.Rules.{rules}
use Rattle.dispatch.specs.Step.{state_step}
use Rattle.dispatch.specs.declared.StateCall.TheVariants.{DoScanlineWrite}
use Rattle.lcd.specs.Lcd.{scanline_written}
use Rattle.registers.specs.State.{on_screen}
use Rattle.quick_screen.proofs.do_scanline_write.Goals as goal

pub returns : goal.returns
unfolding state_step
returns c = c.on_image.ensures (DoScanlineWrite c.args.value) (on_screen (λ s. scanline_written s c.args.value)) (λ m. refl) (λ a b h p. search rules)
