-- Corners of the Rust, computed from the definitions on the screen of a fresh bus.
use mathlib.Core.Bool.{true, false}
use mathlib.Core.Path.{◌≡◌, refl}
use lib.IntN.{pos}
use Rattle.bit_utils.specs.Bits.{is_set, set_bit, unset_bit}
use Rattle.interrupt.specs.Flags.{removed}
use Rattle.interrupt.specs.declared.Interrupt.TheVariants.{Lcd as lcdInterrupt}
use Rattle.lcd.specs.PanDocs.{mode_selected}
use Rattle.lcd.specs.Lcd.{numbers_of, registers, with_flags, screen_enabled, ly_compared, scanline_written, control_put, control_written, mode_signalled, status_written}
use Rattle.lcd.specs.declared.Screen.{Screen}

-- line 144, mode 1; FF40 91, FF41 80, FF45 00, FF4A 00, FF0F E1
abbrev fresh : Screen
fresh = registers (numbers_of false 144 0 1 (pos 0) (pos 0) (pos 0) (pos 0)) 0x91 0x80 0 0 0xE1

-- FF44 given 00 disables the screen and sets mode 0
pub line_disables : scanline_written fresh 0 ≡ registers (numbers_of true 0 0 0 (pos 0) (pos 0) (pos 0) (pos 0)) 0x91 0 0 0 0xE1
unfolding scanline_written is_set
line_disables = refl

-- FF40 given 00, then 91: the screen stays disabled, at line 0; only the delay is set
pub delay_only : control_written (control_written fresh 0) 0x91
    ≡ registers (numbers_of true 0 0 0 (pos 244) (pos 0) (pos 0) (pos 0)) 0x91 0 0 0 0xE1
unfolding control_written control_put screen_enabled is_set
delay_only = refl

-- what FF41 given 10 leaves, in mode 1: Lcd requested, and no signal
abbrev asked : Screen
asked = registers (numbers_of false 144 0 1 (pos 0) (pos 0) (pos 0) (pos 0)) 0x91 0x10 0 0 3

pub first_request : status_written fresh 0x10 ≡ asked
unfolding status_written ly_compared mode_signalled mode_selected is_set set_bit unset_bit
first_request = refl

-- so the same write requests again, once the request is removed
pub request_again : status_written (with_flags asked (removed asked.flags lcdInterrupt)) 0x10 ≡ asked
unfolding status_written ly_compared mode_signalled mode_selected is_set set_bit unset_bit
request_again = refl
