-- The reader stands within the buffer.
use Rattle.std.proofs.Common.{length}
use Rattle.lines.specs.Reader.{Inside}
use Rattle.replay_bus.proofs.replay.Given as goal

abbrev pub invariant-loop : goal.invariant-loop
invariant-loop g l = Inside (length l.buf) l.reader
