-- By the region: `within` its bounds, and one law for each (`put_rom` ..).
use Rattle.memory.proofs.Regions.{within}
use Rattle.mmu.proofs.Places.{holds_mapper, holds_vram, holds_wram, put_save}
use Rattle.std.proofs.Common.{sym, ◌∙◌, arith}
use Rattle.mmu.proofs.put_byte.Goals as goal

pub put_mapper-requires : goal.put_mapper-requires
put_mapper-requires c = (within _ (sym c.region_of.ensures ∙ c.in-Rom.is), holds_mapper c.requires)

pub write_cgb_lcd_ram-requires : goal.write_cgb_lcd_ram-requires
write_cgb_lcd_ram-requires c = (within _ (sym c.region_of.ensures ∙ c.in-Vram.is), holds_vram c.requires)

pub put_save-requires : goal.put_save-requires
put_save-requires c = let H = c.requires in (within _ (sym c.region_of.ensures ∙ c.in-Save.is), (holds_mapper H, (H.save, H.log)))

pub write_cgb_wram-requires : goal.write_cgb_wram-requires
write_cgb_wram-requires c = (within _ (sym c.region_of.ensures ∙ c.in-Wram.is), holds_wram c.requires)

pub overflow_sub-memory : goal.overflow_sub-memory
overflow_sub-memory c = (within _ (sym c.region_of.ensures ∙ c.in-Oam.is)).0

pub bounds-memory-index : goal.bounds-memory-index
bounds-memory-index c = let b = within _ (sym c.region_of.ensures ∙ c.in-Oam.is) in omega (arith, b.0, b.1)

pub overflow_sub-index : goal.overflow_sub-index
overflow_sub-index c = within _ (sym c.region_of.ensures ∙ c.in-Page.is)

pub returns-in-Save : goal.returns-in-Save
returns-in-Save c = put_save _ _ _ (sym c.region_of.ensures ∙ c.in-Save.is) c.put_save.ensures
