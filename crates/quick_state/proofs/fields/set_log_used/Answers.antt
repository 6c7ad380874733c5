-- The image, the use, then the use put.
use mathlib.Core.Path.{refl}
use Rattle.in_place.proofs.Images.{size}
use Rattle.entry.proofs.Held.{due, taken}
use Rattle.refusals.proofs.Answers.{exit}
use Rattle.quick_state.proofs.Parts.{closed_use, use_refused, use_set}
use Rattle.quick_state.proofs.fields.set_log_used.Goals as goal

pub returns-in_err-taken : goal.returns-in_err-taken
returns-in_err-taken c = rw (exit _ _ c.from_residual.ensures.1) (closed_use _ c.in_err-taken.ensures (due _) _)

pub returns-then-not-use_in_range : goal.returns-then-not-use_in_range
returns-then-not-use_in_range c = use_refused _ (taken _ c.in_ok-taken.ensures refl (λ i. (c.slice_known-1.given i).fits)) _ c.use_in_range.ensures c.if-not-use_in_range.true-raw

pub put_used-requires : goal.put_used-requires
put_used-requires c = size _ (taken _ c.in_ok-taken.ensures refl (λ i. (c.slice_known-1.given i).fits))

pub returns : goal.returns
returns c = use_set _ (taken _ c.in_ok-taken.ensures refl (λ i. (c.slice_known-1.given i).fits)) _ c.use_in_range.ensures c.if-not-use_in_range.false-raw c.put_used.ensures
