-- From Pan Docs, "LCD Control, LCD Status Registers": FF40's bit 7 display on, bit 5 window on; FF41's bits 6..3 select the interrupt
-- sources LYC, mode 2, mode 1, mode 0; its bit 2 is LY = LYC, its bits 1..0 the mode, both read-only.
use Rattle.std.specs.Prelude.{Bool, false, cond, ℕ, ◌+◌, ◌*◌, ◌/◌, ◌%◌, ltb}
use Rattle.bit_utils.specs.Bits.{is_set}

abbrev pub display_on : ℕ → Bool
display_on control = is_set control 7

abbrev pub window_on : ℕ → Bool
window_on control = is_set control 5

-- the four sources, mode 0 the lowest bit
abbrev pub sources : ℕ → ℕ
sources status = status / 8 % 16

-- FF41 after a write: the sources are the written ones, the three read-only bits stay
abbrev pub status_of : ℕ → ℕ → ℕ
status_of status value = sources value * 8 + status % 8

abbrev pub lyc_selected : ℕ → Bool
lyc_selected status = is_set status 6

-- the source of mode 0, 1 or 2; no other mode has one
unfoldable pub mode_selected : ℕ → ℕ → Bool
mode_selected status mode = cond (ltb mode 3) (is_set status (3 + mode)) false
