-- What the call makes of the state.
use mathlib.Core.Path.{refl}
use borrow.Author.Rules.{rules}
use Rattle.dispatch.specs.Step.{state_step}
use Rattle.dispatch.specs.declared.StateCall.TheVariants.{Host}
use Rattle.memory.specs.declared.Memory.{Memory}
use Rattle.registers.specs.State.{hosted}
use Rattle.quick_screen.proofs.host.Goals as goal

pub returns : goal.returns
unfolding state_step
returns c = c.on_image.ensures (Host c.args.lcd) (λ (m : Memory). hosted m c.args.lcd) (λ m. refl) (λ a b h p. search rules)
