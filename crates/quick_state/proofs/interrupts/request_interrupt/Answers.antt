-- What the call makes of the state.
use mathlib.Core.Path.{refl}
use Rattle.dispatch.specs.Step.{state_step}
use Rattle.dispatch.specs.declared.StateCall.TheVariants.{RequestInterrupt}
use Rattle.registers.specs.State.{requested_in}
use Rattle.quick_state.proofs.interrupts.request_interrupt.Goals as goal

pub returns : goal.returns
unfolding state_step
returns c = c.on_interrupt.ensures (RequestInterrupt c.args.interrupt) requested_in (λ m. refl) (λ a k b h p. p.1)
