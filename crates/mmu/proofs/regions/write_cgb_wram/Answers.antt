-- The place of `wram_at`, which lies within (`wram_below`).
use Rattle.mmu.proofs.Places.{wram_below}
use Rattle.std.proofs.Common.{arith}
use Rattle.mmu.proofs.regions.write_cgb_wram.Goals as goal

pub bounds-wram-wram_at : goal.bounds-wram-wram_at
bounds-wram-wram_at c = omega (arith, wram_below _ _ _ c.requires.0.0 c.requires.0.1 c.requires.1.0 c.requires.1.1)
