-- Refused, or read within its bank.
use Rattle.std.proofs.Common.{sym}
use Rattle.bus.proofs.Passes.{vram_passes}
use Rattle.bus.proofs.reads.read_cgb_lcd_ram.Goals as goal

pub read_cgb_lcd_ram-requires : goal.read_cgb_lcd_ram-requires
read_cgb_lcd_ram-requires c = vram_passes _ _ _ _ (sym c.in_ok-vram_length_refused.ensures) (sym c.in_ok-vram_refused.ensures)
