-- The invariant: so many bytes are those that the reads give.
use Rattle.std.proofs.Common.{◌≡◌, ℕ, ◌+◌, ◌%◌, length, take}
use Rattle.entry.specs.Host.{list_of}
use Rattle.image.specs.Load.{load_call}
use Rattle.memory.specs.World.{fixed}
use Rattle.mmu.specs.Access.{read_byte}
use Rattle.quick_reads.proofs.block.fill.Given as goal

abbrev pub invariant-loop-place : goal.invariant-loop-place
invariant-loop-place l = (length l.out ≡ length l.initial.out) × ((l.at ≡ (l.index + l.place-index) % 65536) × (take l.place-index l.out ≡ list_of (λ (k : ℕ). read_byte (fixed l.rom l.sound) (load_call l.image).state l.vram l.wram l.save ((l.index + k) % 65536)) l.place-index))
