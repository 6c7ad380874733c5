-- The image, then its field.
use mathlib.Core.Path.{refl}
use Rattle.in_place.proofs.Images.{size}
use Rattle.entry.proofs.Held.{due, taken, closed_ask}
use Rattle.refusals.proofs.Answers.{exit}
use Rattle.quick_state.proofs.Parts.{hdma_asked}
use Rattle.quick_state.proofs.fields.is_hdma_enabled.Goals as goal

pub returns-in_err-taken_here : goal.returns-in_err-taken_here
returns-in_err-taken_here c = rw (exit _ _ c.from_residual.ensures.1) (closed_ask _ c.in_err-taken_here.ensures (due _) _ refl)

pub hdma_at-requires : goal.hdma_at-requires
hdma_at-requires c = size _ (taken _ c.in_ok-taken_here.ensures refl (λ i. (c.shared_slice_known-1.given i).fits))

pub returns : goal.returns
returns c = hdma_asked _ (taken _ c.in_ok-taken_here.ensures refl (λ i. (c.shared_slice_known-1.given i).fits)) c.hdma_at.ensures refl
