-- The invariant: the bytes so far are those of the bus.
use Rattle.std.proofs.Common.{◌≡◌, ◌+◌, length}
use Rattle.image.specs.Load.{load_call}
use Rattle.memory.specs.World.{fixed}
use Rattle.mmu.specs.Access.{read_byte}
use Rattle.move_bytes.proofs.RowLaws.{Filled}
use Rattle.move_bytes.proofs.rows.take_each.Given as goal

abbrev pub invariant-loop-i : goal.invariant-loop-i
invariant-loop-i l = (length l.out ≡ length l.initial.out) × Filled l.out (λ k. read_byte (fixed l.rom l.sound) (load_call l.image).state l.vram l.wram l.save (l.source + k)) l.i
