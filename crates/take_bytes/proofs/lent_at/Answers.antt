-- By the region: one law for each.
use mathlib.Core.Path.{sym, ◌∙◌}
use native.Mathlib.Omega.{arith}
use Rattle.memory.proofs.Regions.{within}
use Rattle.take_bytes.proofs.ByteLaws.{byte_rom, rom_place_below, byte_vram, byte_wram, wram_left}
use Rattle.take_bytes.proofs.lent_at.Goals as goal

pub bounds-rom-rom_place : goal.bounds-rom-rom_place
bounds-rom-rom_place c = let p = c.rom_place.ensures in
    omega (arith, rw c.registers_at.ensures at p, rom_place_below _ c.requires.0.number (λ k. (c.shared_slice_known-1.given k).fits) _ (sym c.region_of.ensures ∙ c.in-Rom.is), c.requires.0.rom)

pub read_cgb_lcd_ram-requires : goal.read_cgb_lcd_ram-requires
read_cgb_lcd_ram-requires c = (within _ (sym c.region_of.ensures ∙ c.in-Vram.is), rw c.banks_at.ensures c.requires.0.vram)

pub read_cgb_wram-requires : goal.read_cgb_wram-requires
read_cgb_wram-requires c = let q = wram_left c.region_of.ensures c.requires.1 c.in_default.not-Rom c.in_default.not-Vram in (within _ q, rw c.banks_at-in_default.ensures c.requires.0.wram)

pub returns-in-Rom : goal.returns-in-Rom
returns-in-Rom c = λ s sound. rw (c.rom_place.ensures, c.registers_at.ensures) (byte_rom _ c.requires.0.number (λ k. (c.shared_slice_known-1.given k).fits) _ _ _ _ _ (sym c.region_of.ensures ∙ c.in-Rom.is))

pub returns-in-Vram : goal.returns-in-Vram
returns-in-Vram c = λ s sound. (c.read_cgb_lcd_ram.ensures ∙ rw c.banks_at.ensures) ∙ byte_vram _ c.requires.0.number (λ k. (c.shared_slice_known-1.given k).fits) _ _ _ _ _ (sym c.region_of.ensures ∙ c.in-Vram.is)

pub returns-in_default : goal.returns-in_default
returns-in_default c = λ s sound.
    let q = wram_left c.region_of.ensures c.requires.1 c.in_default.not-Rom c.in_default.not-Vram in
    (c.read_cgb_wram.ensures ∙ rw c.banks_at-in_default.ensures) ∙ byte_wram _ c.requires.0.number (λ k. (c.shared_slice_known-1.given k).fits) _ _ _ _ _ q
