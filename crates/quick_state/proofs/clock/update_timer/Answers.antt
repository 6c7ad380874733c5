-- The image, the cycles, then the call on it.
use mathlib.Core.Path.{refl}
use Rattle.entry.proofs.Held.{due, taken, closed_state}
use Rattle.refusals.proofs.Answers.{exit}
use Rattle.quick_state.proofs.Calls.{timer_refused, cycles_below, timer_done}
use Rattle.quick_state.proofs.clock.update_timer.Goals as goal

pub returns-in_err-taken_here : goal.returns-in_err-taken_here
returns-in_err-taken_here c = rw (exit _ _ c.from_residual.ensures.1) (closed_state _ c.in_err-taken_here.ensures (due _) _)

pub returns-in_err-cycles_refused : goal.returns-in_err-cycles_refused
returns-in_err-cycles_refused c = rw (exit _ _ c.from_residual-in_err-cycles_refused.ensures.1) (timer_refused _ (taken _ c.in_ok-taken_here.ensures refl (λ i. (c.slice_known-1.given i).fits)) _ c.in_err-cycles_refused.ensures (due _))

pub update_timer-requires : goal.update_timer-requires
update_timer-requires c = ((taken _ c.in_ok-taken_here.ensures refl (λ i. (c.slice_known-1.given i).fits)), cycles_below _ (taken _ c.in_ok-taken_here.ensures refl (λ i. (c.slice_known-1.given i).fits)) _ c.in_ok-cycles_refused.ensures refl)

pub returns : goal.returns
returns c = timer_done _ (taken _ c.in_ok-taken_here.ensures refl (λ i. (c.slice_known-1.given i).fits)) _ c.in_ok-cycles_refused.ensures refl c.update_timer.ensures
