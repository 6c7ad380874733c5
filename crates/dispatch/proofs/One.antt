-- No second outcome: by the law of crate numbers.
use mathlib.Core.Path.{refl}
use Rattle.bus.specs.Calls.{Outcome}
use Rattle.numbers.proofs.One.{only_one}
use Rattle.bus.proofs.One.{memories}
use Rattle.dispatch.specs.Step.{performed, OnePerformed}

pub one_performed : OnePerformed
one_performed x w c = only_one _ (λ (o : Outcome). performed o.number o.value o.after.state) memories (λ r b. refl) (λ r b. refl) _
