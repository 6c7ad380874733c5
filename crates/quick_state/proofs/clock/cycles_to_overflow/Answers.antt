-- The image, then what it has left.
use mathlib.Core.Path.{refl}
use Rattle.entry.proofs.Held.{due, taken}
use Rattle.refusals.proofs.Answers.{exit}
use Rattle.quick_state.proofs.Parts.{closed_overflow, overflow_given}
use Rattle.quick_state.proofs.clock.cycles_to_overflow.Goals as goal

pub returns-in_err-taken_here : goal.returns-in_err-taken_here
returns-in_err-taken_here c = rw (exit _ _ c.from_residual.ensures.1) (closed_overflow _ c.in_err-taken_here.ensures (due _) refl, tt)

pub cycles_to_overflow-requires : goal.cycles_to_overflow-requires
cycles_to_overflow-requires c = (taken _ c.in_ok-taken_here.ensures refl (λ i. (c.shared_slice_known-1.given i).fits))

pub returns : goal.returns
returns c = (overflow_given _ (taken _ c.in_ok-taken_here.ensures refl (λ i. (c.shared_slice_known-1.given i).fits)) c.cycles_to_overflow.ensures.0, c.cycles_to_overflow.ensures.1)
