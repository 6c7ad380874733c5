-- A write stands at twice its depth and a transfer one higher, so both calls fall. The transfer's loop keeps what is copied so far and that the world is ready.
use Rattle.std.proofs.Common.{◌≡◌, ◌+◌, ◌*◌}
use Rattle.memory.specs.World.{world, fixed}
use Rattle.mmu.specs.Access.{Ready}
use Rattle.mmu.specs.Write.{copy_by, write_at}
use Rattle.mmu.proofs.+do_dma_transfer_write_byte.Given as goal

abbrev pub decreases-do_dma_transfer : goal.decreases-do_dma_transfer
decreases-do_dma_transfer l = 2 * l.depth + 1

abbrev pub decreases-write_byte : goal.decreases-write_byte
decreases-write_byte l = 2 * l.depth

abbrev pub invariant-do_dma_transfer-loop-i : goal.invariant-do_dma_transfer-loop-i
invariant-do_dma_transfer-loop-i l =
    record {
      copied : world l.next l.vram l.wram l.save l.log ≡ copy_by (fixed l.rom l.sound) (write_at (fixed l.rom l.sound) l.depth) l.copy.source l.copy.destination l.i (world l.initial.next l.initial.vram l.initial.wram l.initial.save l.initial.log);
      ready : Ready (fixed l.rom l.sound) (world l.next l.vram l.wram l.save l.log);
    }
