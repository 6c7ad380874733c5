-- By the region: one law for each; elsewhere `put_byte`.
use mathlib.Core.Path.{sym, ◌∙◌}
use Rattle.memory.proofs.Regions.{within}
use Rattle.put_bytes.proofs.PutLaws.{taken_mapped, taken_length, taken_core, taken_vram, taken_wram, after_slim, left_rom, left_vram, left_wram, left_oam}
use Rattle.put_bytes.proofs.put_here.Goals as goal

pub banks_at-requires : goal.banks_at-requires
banks_at-requires c = taken_length c.requires

pub write_cgb_lcd_ram-requires : goal.write_cgb_lcd_ram-requires
write_cgb_lcd_ram-requires c = let P = c.requires in (within _ (sym c.region_of.ensures ∙ c.in-Vram.is), rw c.banks_at.ensures (taken_vram P (taken_core P)))

pub banks_at-requires-in-Wram : goal.banks_at-requires-in-Wram
banks_at-requires-in-Wram c = taken_length c.requires

pub write_cgb_wram-requires : goal.write_cgb_wram-requires
write_cgb_wram-requires c = let P = c.requires in (within _ (sym c.region_of.ensures ∙ c.in-Wram.is), rw c.banks_at-in-Wram.ensures (taken_wram P (taken_core P)))

pub put_own-requires : goal.put_own-requires
put_own-requires c = (taken_length c.requires, (within _ (sym c.region_of.ensures ∙ c.in-Oam.is)).0)

pub put_mapper-requires : goal.put_mapper-requires
put_mapper-requires c = let P = c.requires in (taken_mapped P, after_slim P (taken_core P) _ _)

pub returns-in-Vram : goal.returns-in-Vram
returns-in-Vram c = let P = c.requires in left_vram P (taken_core P) _ _ (sym c.region_of.ensures ∙ c.in-Vram.is) (c.write_cgb_lcd_ram.ensures ∙ rw c.banks_at.ensures)

pub returns-in-Wram : goal.returns-in-Wram
returns-in-Wram c = let P = c.requires in left_wram P (taken_core P) _ _ (sym c.region_of.ensures ∙ c.in-Wram.is) (c.write_cgb_wram.ensures ∙ rw c.banks_at-in-Wram.ensures)

pub returns-in-Oam : goal.returns-in-Oam
returns-in-Oam c = let P = c.requires in left_oam P (taken_core P) _ _ (sym c.region_of.ensures ∙ c.in-Oam.is) c.ranges.value.fits c.put_own.ensures

pub returns-in-Rom : goal.returns-in-Rom
returns-in-Rom c = let P = c.requires in left_rom P (taken_core P) _ _ (sym c.region_of.ensures ∙ c.in-Rom.is) c.put_mapper.ensures
