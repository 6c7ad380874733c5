-- The image, then the call on it.
use mathlib.Core.Path.{refl}
use Rattle.entry.proofs.Held.{due, taken, closed_state, state_done}
use Rattle.refusals.proofs.Answers.{exit}
use Rattle.quick_screen.proofs.on_image.Goals as goal

pub returns-in_err-taken : goal.returns-in_err-taken
returns-in_err-taken g c = λ d f s p. rw (exit _ _ c.from_residual.ensures.1) (closed_state _ c.in_err-taken.ensures (due _) d)

pub returns : goal.returns
returns g c = λ d f s p. state_done _ (taken _ c.in_ok-taken.ensures refl (λ i. (c.slice_known-1.given i).fits)) d _ (s _) (p _ _ (taken _ c.in_ok-taken.ensures refl (λ i. (c.slice_known-1.given i).fits)) c.change.ensures)
