-- From Pan Docs, "Interrupts": FFFF enables, FF0F requests; bit 0 VBlank, 1 LCD, 2 Timer, 3 Serial, 4 Joypad;
-- the lowest bit that is set in both is served first. FF0F has five bits: the upper three read 1.
use Rattle.std.specs.Prelude.{Option, Some, None, Bool, cond, ◌&&◌, ℕ}
use Rattle.std.specs.Int.Bits.{bit_or}
use Rattle.bit_utils.specs.Bits.{is_set}
use Rattle.interrupt.specs.declared.Interrupt.{Interrupt}
use Rattle.interrupt.specs.declared.Interrupt.TheVariants.{Vblank, Lcd, Timer, Serial, Joypad}

abbrev pub bit_of : Interrupt → ℕ
bit_of Vblank = 0
bit_of Lcd = 1
bit_of Timer = 2
bit_of Serial = 3
bit_of Joypad = 4

-- requested and enabled
unfoldable pub waits : ℕ → ℕ → Interrupt → Bool
waits enable flags i = is_set enable (bit_of i) && is_set flags (bit_of i)

unfoldable pub first_of : ℕ → ℕ → Option Interrupt
first_of enable flags =
    cond (waits enable flags Vblank) (Some Vblank)
    (cond (waits enable flags Lcd) (Some Lcd)
    (cond (waits enable flags Timer) (Some Timer)
    (cond (waits enable flags Serial) (Some Serial)
    (cond (waits enable flags Joypad) (Some Joypad) None))))

abbrev pub flags_read : ℕ → ℕ
flags_read flags = bit_or flags 0xE0
