-- Refused, or read within.
use Rattle.std.proofs.Common.{sym}
use Rattle.bus.proofs.Passes.{read_passes}
use Rattle.bus.proofs.reads.read_byte.Goals as goal

pub read_byte-requires : goal.read_byte-requires
read_byte-requires c = read_passes _ _ _ _ _ _ (sym (rw c.of.ensures at c.in_ok-read_refused.ensures))
