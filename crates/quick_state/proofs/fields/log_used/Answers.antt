-- The image, then its field.
use mathlib.Core.Path.{refl}
use Rattle.in_place.proofs.Images.{size}
use Rattle.entry.proofs.Held.{due, taken}
use Rattle.refusals.proofs.Answers.{exit}
use Rattle.quick_state.proofs.Parts.{closed_used, used_given}
use Rattle.quick_state.proofs.fields.log_used.Goals as goal

pub returns-in_err-taken : goal.returns-in_err-taken
returns-in_err-taken c = rw (exit _ _ c.from_residual.ensures.1) (closed_used _ c.in_err-taken.ensures (due _) refl)

pub used_at-requires : goal.used_at-requires
used_at-requires c = size _ (taken _ c.in_ok-taken.ensures refl (λ i. (c.shared_slice_known-1.given i).fits))

pub returns : goal.returns
returns c = used_given _ (taken _ c.in_ok-taken.ensures refl (λ i. (c.shared_slice_known-1.given i).fits)) c.used_at.ensures
