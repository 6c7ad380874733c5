-- What refuses the image, or what refuses the lengths.
use Rattle.std.proofs.Common.{refl}
use Rattle.refusals.specs.Refusal.{or_else}
use Rattle.refusals.proofs.Answers.{exit, refuses}
use Rattle.take_bytes.proofs.ByteLaws.{number_lengths}
use Rattle.take_bytes.proofs.taken.Goals as goal

pub returns-in_err-taken : goal.returns-in_err-taken
unfolding or_else
returns-in_err-taken c = rw (exit _ _ c.from_residual.ensures.1, ← c.in_err-taken.ensures, refuses c.in_err-taken.field-0.0)

pub returns : goal.returns
returns c = number_lengths _ c.in_ok-taken.ensures _ _ _ _ _ refl (λ k. (c.shared_slice_known-1.given k).fits) c.lengths_taken.ensures
