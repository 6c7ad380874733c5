-- Refused, or transferred within.
use Rattle.std.proofs.Common.{sym}
use Rattle.bus.proofs.Passes.{write_passes}
use Rattle.transfer_calls.proofs.do_dma_transfer.Goals as goal

pub do_oam_dma-next-requires : goal.do_oam_dma-next-requires
do_oam_dma-next-requires c = write_passes _ _ _ _ _ _ _ (sym (rw c.of-lens.ensures at c.in_ok-write_refused.ensures))
