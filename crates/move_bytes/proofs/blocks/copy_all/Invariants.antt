-- The invariant: what the blocks so far leave.
use Rattle.std.proofs.Common.{◌≡◌, ◌%◌, ◌-◌, ◌≤◌, length}
use Rattle.memory.specs.World.{fixed}
use Rattle.move_bytes.specs.Transfers.{Copied}
use Rattle.move_bytes.proofs.blocks.copy_all.Given as goal

abbrev pub invariant-loop-i : goal.invariant-loop-i
invariant-loop-i l = (l.i ≤ l.count) × ((l.i % 16 ≡ 0) × ((length l.vram ≡ length l.initial.vram) × Copied (fixed l.rom l.sound) l.image l.initial.vram l.wram l.save l.source l.destination l.i l.vram))

abbrev pub decreases-loop-i : goal.decreases-loop-i
decreases-loop-i l = l.count - l.i
