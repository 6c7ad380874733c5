-- From Pan Docs: what FF4D, FF4F and FF70 keep and select ("CGB Registers").
use Rattle.std.specs.Prelude.{cond, ℕ, ◌+◌, ◌*◌, ◌/◌, ◌%◌, eqb}

-- FF4D: bit 7 the speed, read-only; bit 0 armed. That the other bits are stored as 1 (7E) is the Rust's
abbrev pub speed_of : ℕ → ℕ → ℕ
speed_of current value = current / 128 * 128 + value % 2 + 126

-- FF4F: bit 0 selects the bank of video memory
abbrev pub vram_bank_of : ℕ → ℕ
vram_bank_of value = value % 2

-- FF70: bits 2..0 select the bank of work memory at D000; 0 selects 1
unfoldable pub wram_bank_of : ℕ → ℕ
wram_bank_of value = cond (eqb (value % 8) 0) 1 (value % 8)
