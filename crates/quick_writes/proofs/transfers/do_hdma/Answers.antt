-- Refused, or moved: then the image is taken, and what is lent has its lengths (`lent`).
use mathlib.Core.Path.{refl}
use Rattle.entry.proofs.Held.{due}
use Rattle.refusals.proofs.Answers.{exit}
use Rattle.quick_writes.proofs.EntryLaws.{lent, block_refused, block_done}
use Rattle.quick_writes.proofs.transfers.do_hdma.Goals as goal

pub returns-in_err-taken : goal.returns-in_err-taken
returns-in_err-taken c = rw (exit _ _ c.from_residual.ensures.1) (block_refused _ _ _ _ _ _ _ (λ k. (c.slice_known-1.given k).fits) c.in_err-taken.ensures (due _))

pub move_block-requires : goal.move_block-requires
move_block-requires c = lent _ _ _ _ _ _ c.args.log.now (λ k. (c.slice_known-1.given k).fits) c.in_ok-taken.ensures refl

pub returns : goal.returns
returns c = block_done _ _ _ _ _ _ _ (λ k. (c.slice_known-1.given k).fits) c.in_ok-taken.ensures refl c.move_block.ensures
