-- The image, the index, then the byte.
use mathlib.Core.Path.{refl}
use Rattle.entry.proofs.Held.{due, taken, closed_ask}
use Rattle.refusals.proofs.Answers.{exit}
use Rattle.quick_state.proofs.Calls.{load_refused, load_given}
use Rattle.quick_state.proofs.page.load.Goals as goal

pub returns-in_err-taken : goal.returns-in_err-taken
returns-in_err-taken c = rw (exit _ _ c.from_residual.ensures.1) (closed_ask _ c.in_err-taken.ensures (due _) _ refl)

pub returns-in_err-raw_refused : goal.returns-in_err-raw_refused
returns-in_err-raw_refused c = rw (exit _ _ c.from_residual-in_err-raw_refused.ensures.1) (load_refused _ (taken _ c.in_ok-taken.ensures refl (λ i. (c.shared_slice_known-1.given i).fits)) _ c.in_err-raw_refused.ensures (due _) refl)

pub load-requires : goal.load-requires
load-requires c = (taken _ c.in_ok-taken.ensures refl (λ i. (c.shared_slice_known-1.given i).fits))

pub returns : goal.returns
returns c = load_given _ (taken _ c.in_ok-taken.ensures refl (λ i. (c.shared_slice_known-1.given i).fits)) _ c.in_ok-raw_refused.ensures refl c.load.ensures
