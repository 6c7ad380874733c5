-- By the region: `within` its bounds; what is left in the last arm goes through the mapper (`mapped_by`).
use Rattle.memory.proofs.Regions.{within}
use Rattle.mmu.proofs.Places.{mapped_by, read_mapped}
use Rattle.std.proofs.Common.{sym, ◌∙◌}
use Rattle.mmu.proofs.regions.read_lent.Goals as goal

pub read_cgb_lcd_ram-requires : goal.read_cgb_lcd_ram-requires
read_cgb_lcd_ram-requires c = (within _ (sym c.requires.1.0 ∙ c.in-Vram.is), c.requires.0.vram)

pub read_cgb_wram-requires : goal.read_cgb_wram-requires
read_cgb_wram-requires c = (within _ (sym c.requires.1.0 ∙ c.in-Wram.is), c.requires.0.wram)

pub read-requires : goal.read-requires
read-requires c = let R = c.requires.0 in (R.mapper, (mapped_by _ (sym c.requires.1.0) c.requires.1.1 c.in_default.not-Vram c.in_default.not-Wram, (R.rom, R.save)))

pub returns-in_default : goal.returns-in_default
returns-in_default c = λ m y e. read_mapped _ (sym c.requires.1.0) c.requires.1.1 c.in_default.not-Vram c.in_default.not-Wram _ m _ _ _ (rw e c.read.ensures)
