-- The image, the index, then the byte put.
use mathlib.Core.Path.{refl}
use Rattle.dispatch.specs.Step.{state_step}
use Rattle.entry.proofs.Held.{due, taken, closed_state, own_refused, own_done}
use Rattle.refusals.proofs.Answers.{exit}
use Rattle.quick_state.proofs.Calls.{raw_due}
use Rattle.quick_state.proofs.page.store.Goals as goal

pub returns-in_err-taken : goal.returns-in_err-taken
returns-in_err-taken c = rw (exit _ _ c.from_residual.ensures.1) (closed_state _ c.in_err-taken.ensures (due _) _)

pub returns-in_err-raw_refused : goal.returns-in_err-raw_refused
unfolding state_step
returns-in_err-raw_refused c = rw (exit _ _ c.from_residual-in_err-raw_refused.ensures.1) (own_refused _ (taken _ c.in_ok-taken.ensures refl (λ i. (c.slice_known-1.given i).fits)) _ _ refl c.in_err-raw_refused.ensures (raw_due (due _) _ c.in_err-raw_refused.ensures))

pub store-requires : goal.store-requires
store-requires c = (taken _ c.in_ok-taken.ensures refl (λ i. (c.slice_known-1.given i).fits))

pub returns : goal.returns
unfolding state_step
returns c = own_done _ (taken _ c.in_ok-taken.ensures refl (λ i. (c.slice_known-1.given i).fits)) _ _ refl c.in_ok-raw_refused.ensures refl c.store.ensures
