-- Refused, or read within.
use Rattle.std.proofs.Common.{sym}
use Rattle.bus.proofs.Passes.{read_passes}
use Rattle.bus.proofs.reads.read_word.Goals as goal

pub read_word-requires : goal.read_word-requires
read_word-requires c = read_passes _ _ _ _ _ _ (sym (rw c.of.ensures at c.in_ok-read_refused.ensures))
