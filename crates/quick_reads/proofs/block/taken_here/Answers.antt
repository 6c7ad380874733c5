-- What refuses the image, or what refuses the lengths.
use Rattle.std.proofs.Common.{refl, sym}
use Rattle.entry.proofs.Held.{due, first_due}
use Rattle.refusals.proofs.Answers.{exit}
use Rattle.take_bytes.proofs.ByteLaws.{number_lengths}
use Rattle.quick_reads.proofs.block.taken_here.Goals as goal

pub returns-in_err-mapper_taken : goal.returns-in_err-mapper_taken
returns-in_err-mapper_taken c = rw (exit _ _ c.from_residual.ensures.1) (first_due _ (due _) (c.in_err-mapper_taken.ensures.1 (due _)))

pub rest_taken-requires : goal.rest_taken-requires
rest_taken-requires c = c.in_ok-mapper_taken.ensures.0 refl

pub returns-in_err-rest_taken : goal.returns-in_err-rest_taken
returns-in_err-rest_taken c = rw (exit _ _ c.from_residual-in_err-rest_taken.ensures.1) (first_due _ (due _) c.in_err-rest_taken.ensures)

pub lengths_taken-requires : goal.lengths_taken-requires
lengths_taken-requires c = sym c.in_ok-rest_taken.ensures

pub returns : goal.returns
returns c = number_lengths _ c.in_ok-rest_taken.ensures _ _ _ _ _ refl (λ k. (c.shared_slice_known-1.given k).fits) c.lengths_taken.ensures
