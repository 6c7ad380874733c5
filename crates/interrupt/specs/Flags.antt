-- FF0F after a request and after a removal (document 01, "The bus": FF0F keeps 5 bits), and the numbers of the interrupts
-- (document 01, "The part we take", and number 7: an interrupt over 4).
use Rattle.std.specs.Prelude.{Option, Some, None, cond, ℕ, ◌%◌, eqb}
use Rattle.bit_utils.specs.Bits.{set_bit, unset_bit}
use Rattle.interrupt.specs.PanDocs.{bit_of}
use Rattle.interrupt.specs.declared.Interrupt.{Interrupt}
use Rattle.interrupt.specs.declared.Interrupt.TheVariants.{Vblank, Lcd, Timer, Serial, Joypad}

abbrev pub requested : ℕ → Interrupt → ℕ
requested flags i = set_bit (flags % 32) (bit_of i)

abbrev pub removed : ℕ → Interrupt → ℕ
removed flags i = unset_bit (flags % 32) (bit_of i)

unfoldable pub named : ℕ → Option Interrupt
named n =
    cond (eqb n 0) (Some Vblank)
    (cond (eqb n 1) (Some Lcd)
    (cond (eqb n 2) (Some Timer) (cond (eqb n 3) (Some Serial) (cond (eqb n 4) (Some Joypad) None))))
