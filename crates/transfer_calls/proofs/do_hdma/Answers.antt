-- Refused, or transferred within.
use Rattle.std.proofs.Common.{sym}
use Rattle.bus.proofs.Passes.{write_passes}
use Rattle.transfer_calls.proofs.do_hdma.Goals as goal

pub do_hdma-next-requires : goal.do_hdma-next-requires
do_hdma-next-requires c = write_passes _ _ _ _ _ _ _ (sym (rw c.of-lens.ensures at c.in_ok-write_refused.ensures))
