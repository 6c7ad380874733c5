-- The image, then the question.
use mathlib.Core.Path.{refl}
use Rattle.entry.proofs.Held.{due, taken, closed_ask}
use Rattle.refusals.proofs.Answers.{exit}
use Rattle.quick_state.proofs.Calls.{pending_given}
use Rattle.quick_state.proofs.interrupts.get_interrupts.Goals as goal

pub returns-in_err-taken_here : goal.returns-in_err-taken_here
returns-in_err-taken_here c = rw (exit _ _ c.from_residual.ensures.1) (closed_ask _ c.in_err-taken_here.ensures (due _) _ refl)

pub get_interrupts-requires : goal.get_interrupts-requires
get_interrupts-requires c = (taken _ c.in_ok-taken_here.ensures refl (λ i. (c.shared_slice_known-1.given i).fits))

pub returns : goal.returns
returns c = pending_given _ (taken _ c.in_ok-taken_here.ensures refl (λ i. (c.shared_slice_known-1.given i).fits)) c.get_interrupts.ensures refl
