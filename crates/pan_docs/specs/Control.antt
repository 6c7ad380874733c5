-- Pan Docs, "LCD Control": "FF40: bit 7 display on, bit 5 window on."
use Rattle.std.specs.Prelude.{true, ◌⊎◌, ◌≡◌, ℕ, eqb}
use Rattle.lcd.specs.Lcd.{control_written}
use Rattle.lcd.specs.PanDocs.{display_on, window_on}
use Rattle.lcd.specs.declared.Screen.{Screen}
use Rattle.pan_docs.specs.Bits.{bit}

pub record ControlBits : Type 0 where
  pub display : (control : ℕ) → display_on control ≡ eqb (bit control 7) 1
  pub window : (control : ℕ) → window_on control ≡ eqb (bit control 5) 1
  -- a write stores the value
  pub stored : (s : Screen) (v : ℕ) → (control_written s v).control ≡ v
  -- bit 7 at 0 disables the screen; at 1 it is left as it was: a disabled one the host enables, after a delay (the Rust's)
  pub off : (s : Screen) (v : ℕ) → bit v 7 ≡ 0 → (control_written s v).lcd.disabled ≡ true
  pub on : (s : Screen) (v : ℕ) → bit v 7 ≡ 1 → (control_written s v).lcd.disabled ≡ s.lcd.disabled
  -- only a window that goes from off to on moves the window line (the Rust's)
  pub window_line : (s : Screen) (v : ℕ) → (bit s.control 5 ≡ 1) ⊎ (bit v 5 ≡ 0) → (control_written s v).lcd.window ≡ s.lcd.window
  -- neither FF45 nor a request changes
  pub lyc : (s : Screen) (v : ℕ) → (control_written s v).compare ≡ s.compare
  pub flags : (s : Screen) (v : ℕ) → (control_written s v).flags ≡ s.flags
