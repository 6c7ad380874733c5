-- The loop goes from its first place to where it stands, by one step a turn.
use Rattle.std.proofs.Common.{◌≤◌, length, true, false}
use Rattle.commands.specs.Walk.{text_of}
use Rattle.lines.specs.Reader.{Inside, pending}
use Rattle.memory.specs.World.{world, fixed}
use Rattle.walk.specs.Walk.{place, Ran}
use Rattle.walk.proofs.run.Given as goal

abbrev pub invariant-loop : goal.invariant-loop
invariant-loop g l =
    (Inside (length l.buf) l.state.reader × (13 ≤ length l.buf))
    × Ran (fixed l.rom l.sound)
    (place (world l.initial.state.memory l.initial.vram l.initial.wram l.initial.save l.initial.log) (text_of l.initial.out)
    l.initial.state.long (pending l.initial.buf l.initial.state.reader) l.initial.state.reader.more)
    true false
    (place (world l.state.memory l.vram l.wram l.save l.log) (text_of l.out) l.state.long (pending l.buf l.state.reader) l.state.reader.more)
