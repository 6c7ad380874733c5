-- The image, the interrupt, then the call on it.
use mathlib.Core.Path.{refl}
use Rattle.entry.proofs.Held.{due, taken, closed_state}
use Rattle.refusals.proofs.Answers.{exit}
use Rattle.quick_state.proofs.Calls.{past_last, unnamed, flagged}
use Rattle.quick_state.proofs.interrupts.on_interrupt.Goals as goal

pub returns-in_err-taken_here : goal.returns-in_err-taken_here
returns-in_err-taken_here g c = λ d f s p. rw (exit _ _ c.from_residual.ensures.1) (closed_state _ c.in_err-taken_here.ensures (due _) d)

pub returns-then-number-gt-LAST : goal.returns-then-number-gt-LAST
returns-then-number-gt-LAST g c = λ d f s p. unnamed _ (taken _ c.in_ok-taken_here.ensures refl (λ i. (c.slice_known-1.given i).fits)) f _ d (s _) (past_last _ c.if-number-gt-LAST.true)

pub returns-in_err-known : goal.returns-in_err-known
returns-in_err-known g c = λ d f s p. rw (exit _ _ c.from_residual-in_err-known.ensures.1) (unnamed _ (taken _ c.in_ok-taken_here.ensures refl (λ i. (c.slice_known-1.given i).fits)) f _ d (s _) c.in_err-known.ensures)

pub returns : goal.returns
returns g c = λ d f s p. flagged _ (taken _ c.in_ok-taken_here.ensures refl (λ i. (c.slice_known-1.given i).fits)) f _ d (s _) c.in_ok-known.ensures (p _ _ _ (taken _ c.in_ok-taken_here.ensures refl (λ i. (c.slice_known-1.given i).fits)) c.change.ensures)
