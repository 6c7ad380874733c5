-- The LCD functions of the bus (document 01, "The bus": FF40, FF41, FF44 and FF45 follow their `do_` functions of the Rust; "The part we
-- take": the host sets the eight numbers). Each is what the screen and its registers become.
use Rattle.std.specs.Prelude.{Bool, true, cond, ℕ, ◌*◌, ◌/◌, ◌%◌, eqb, ltb, ℤ, pos}
use Rattle.std.specs.Int.Bits.{bit_and}
use Rattle.std.proofs.Common.{of_z}
use Rattle.std.specs.Int.{w32}
use Rattle.bit_utils.specs.Bits.{is_set, set_bit, unset_bit}
use Rattle.interrupt.specs.Flags.{requested}
use Rattle.interrupt.specs.declared.Interrupt.TheVariants.{Lcd as lcdInterrupt}
use Rattle.lcd.specs.PanDocs.{display_on, window_on, sources, status_of, lyc_selected, mode_selected}
use Rattle.lcd.specs.declared.Lcd.{Lcd}
use Rattle.lcd.specs.declared.Screen.{Screen}

-- the host's eight numbers
abbrev pub numbers_of : Bool → ℕ → ℕ → ℕ → ℤ → ℤ → ℤ → ℤ → Lcd
numbers_of d l s m y c a w =
    record { disabled = d; line = l; signal = s; mode = m; delay = y; counter = c; aux = a; window = w }

-- one number or register changed, the others as they were
abbrev pub with_signal : Lcd → ℕ → Lcd
with_signal l x = numbers_of l.disabled l.line x l.mode l.delay l.counter l.aux l.window

abbrev pub with_delay : Lcd → ℤ → Lcd
with_delay l x = numbers_of l.disabled l.line l.signal l.mode x l.counter l.aux l.window

abbrev pub with_window : Lcd → ℤ → Lcd
with_window l x = numbers_of l.disabled l.line l.signal l.mode l.delay l.counter l.aux x

abbrev pub registers : Lcd → ℕ → ℕ → ℕ → ℕ → ℕ → Screen
registers l c s y w f = record { lcd = l; control = c; status = s; compare = y; wy = w; flags = f }

abbrev pub with_lcd : Screen → Lcd → Screen
with_lcd s x = registers x s.control s.status s.compare s.wy s.flags

abbrev pub with_control : Screen → ℕ → Screen
with_control s x = registers s.lcd x s.status s.compare s.wy s.flags

abbrev pub with_status : Screen → ℕ → Screen
with_status s x = registers s.lcd s.control x s.compare s.wy s.flags

abbrev pub with_compare : Screen → ℕ → Screen
with_compare s x = registers s.lcd s.control s.status x s.wy s.flags

abbrev pub with_flags : Screen → ℕ → Screen
with_flags s x = registers s.lcd s.control s.status s.compare s.wy x

-- `request_interrupt(Lcd)`
abbrev pub lcd_requested : Screen → Screen
lcd_requested s = with_flags s (requested s.flags lcdInterrupt)

-- `enable_screen`: a disabled screen only gets its delay
unfoldable pub screen_enabled : Screen → Screen
screen_enabled s = cond s.lcd.disabled (with_lcd s (with_delay s.lcd (pos 244))) s

-- the numbers of a disabled screen: delay and window line stay
abbrev pub numbers_off : Lcd → Lcd
numbers_off l = numbers_of true 0 0 0 l.delay (pos 0) (pos 0) l.window

-- `disable_screen`: FF41 keeps its bits 6..2
abbrev pub screen_disabled : Screen → Screen
screen_disabled s = with_status (with_lcd s (numbers_off s.lcd)) (s.status / 4 % 32 * 4)

-- `reset_window_line`: window line 0, on a visible line past the one in FF4A
unfoldable pub window_line_reset : Screen → Screen
window_line_reset s =
    cond (eqb (of_z w32 s.lcd.window) 0)
    (cond (ltb s.lcd.line 144) (cond (ltb s.wy s.lcd.line) (with_lcd s (with_window s.lcd (pos 144))) s) s)
    s

-- `compare_ly_to_lyc`, LY = LYC with its source selected: bit 3 of the signal, and a request where no signal stood
unfoldable pub lyc_signalled : Screen → Screen
lyc_signalled s =
    cond (eqb s.lcd.signal 0) (lcd_requested (with_lcd s (with_signal s.lcd (set_bit s.lcd.signal 3))))
    (with_lcd s (with_signal s.lcd (set_bit s.lcd.signal 3)))

-- LY = LYC
unfoldable pub ly_equal : Screen → Screen
ly_equal s =
    cond (lyc_selected s.status) (lyc_signalled (with_status s (set_bit s.status 2))) (with_status s (set_bit s.status 2))

-- LY is not LYC
abbrev pub ly_differs : Screen → Screen
ly_differs s =
    with_status (with_lcd s (with_signal s.lcd (unset_bit s.lcd.signal 3))) (unset_bit s.status 2)

-- `compare_ly_to_lyc`: nothing with the screen disabled
unfoldable pub ly_compared : Screen → Screen
ly_compared s = cond s.lcd.disabled s (cond (eqb s.compare s.lcd.line) (ly_equal s) (ly_differs s))

-- `do_scanline_write`: a line of 128 or more, given less, disables the screen
unfoldable pub scanline_written : Screen → ℕ → Screen
scanline_written s value = cond (is_set s.lcd.line 7) (cond (is_set value 7) s (screen_disabled s)) s

-- `do_lyc_write`: the same value changes nothing
unfoldable pub lyc_written : Screen → ℕ → Screen
lyc_written s value =
    cond (eqb s.compare value) s
    (cond (display_on s.control) (ly_compared (with_compare s value)) (with_compare s value))

-- `do_lcd_control_write`, its first part: the value, and the window line where the window goes from off to on
unfoldable pub control_put : Screen → ℕ → Screen
control_put s value =
    cond (window_on s.control) (with_control s value)
    (cond (window_on value) (window_line_reset (with_control s value)) (with_control s value))

-- `do_lcd_control_write`
unfoldable pub control_written : Screen → ℕ → Screen
control_written s value =
    cond (display_on value) (screen_enabled (control_put s value)) (screen_disabled (control_put s value))

-- `do_lcd_status_write`, its first part: the new FF41, and of the signal what is still selected
abbrev pub status_put : Screen → ℕ → Screen
status_put s value =
    with_status (with_lcd s (with_signal s.lcd (bit_and s.lcd.signal (sources value)))) (status_of s.status value)

-- its second part: the mode's own source requests where no signal stands, and leaves no signal
unfoldable pub mode_signalled : Screen → Screen
mode_signalled s =
    cond (eqb s.lcd.signal 0) (cond (mode_selected s.status s.lcd.mode) (lcd_requested s) s) s

-- `do_lcd_status_write`
unfoldable pub status_written : Screen → ℕ → Screen
status_written s value =
    cond (display_on s.control) (ly_compared (mode_signalled (status_put s value))) (status_put s value)
