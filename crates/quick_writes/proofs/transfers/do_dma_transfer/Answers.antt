-- Refused, or moved: then the image is taken, and what is lent has its lengths (`lent`).
use mathlib.Core.Path.{refl}
use Rattle.entry.proofs.Held.{due}
use Rattle.refusals.proofs.Answers.{exit}
use Rattle.quick_writes.proofs.EntryLaws.{lent, oam_refused, oam_done}
use Rattle.quick_writes.proofs.transfers.do_dma_transfer.Goals as goal

pub returns-in_err-taken : goal.returns-in_err-taken
returns-in_err-taken c = rw (exit _ _ c.from_residual.ensures.1) (oam_refused _ _ _ _ _ _ _ (λ k. (c.slice_known-1.given k).fits) c.in_err-taken.ensures _ (due _))

pub move_oam-requires : goal.move_oam-requires
move_oam-requires c = lent _ _ _ _ _ _ c.args.log.now (λ k. (c.slice_known-1.given k).fits) c.in_ok-taken.ensures refl

pub returns : goal.returns
returns c = oam_done _ _ _ _ _ _ _ (λ k. (c.slice_known-1.given k).fits) c.in_ok-taken.ensures _ refl c.move_oam.ensures
