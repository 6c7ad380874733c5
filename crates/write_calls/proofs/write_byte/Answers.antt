-- Refused, or written within.
use Rattle.std.proofs.Common.{sym}
use Rattle.bus.proofs.Passes.{write_passes}
use Rattle.write_calls.proofs.write_byte.Goals as goal

pub write_byte-next-requires : goal.write_byte-next-requires
write_byte-next-requires c = write_passes _ _ _ _ _ _ _ (sym (rw c.of-lens.ensures at c.in_ok-write_refused.ensures))
