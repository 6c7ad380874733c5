-- From Pan Docs: which bits read 1; with what FF4D, FF4F and FF70 keep and select (crate selects).
use Rattle.std.specs.Prelude.{ℕ}
pub use Rattle.selects.specs.PanDocs.{speed_of, vram_bank_of}
unfoldable pub use Rattle.selects.specs.PanDocs.{wram_bank_of}

-- Bits that read 1: FF41's bit 7 ("LCD Status Registers"), FF4F's bits 7..1 ("CGB Registers"); FF0F's are crate interrupt's

abbrev pub status_ones : ℕ
status_ones = 0x80

abbrev pub vram_bank_ones : ℕ
vram_bank_ones = 0xFE

-- Timer and Divider Registers: a write of any value sets DIV to 00
abbrev pub div_reset : ℕ
div_reset = 0x00
