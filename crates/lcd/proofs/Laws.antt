-- What a caller that keeps a screen cites. A property that every single change keeps is kept by each of the functions; that the bytes are
-- bytes is such a property, and so is that the four signed numbers fit 32 bits.
use Prim.Native.Nat.{ℕ, ◌%◌, ◌^◌, ◌<◌}
use native.Mathlib.Omega.{arith}
use lib.Bits.{and_le_l}
use lib.Dec.{eqb, ltb, lit<}
use borrow.Author.Rules.{rules}
use lib.IntN.{pos}
use mir.Syntax.{w32}
use mir.Val.{of_z, SFits}
use Rattle.bit_utils.specs.Bits.{is_set, set_bit}
use Rattle.bit_utils.proofs.Laws.{set_byte, unset_byte}
use Rattle.rules.proofs.Tests.{cond_both}
use Rattle.lcd.specs.PanDocs.{sources, mode_selected}
use Rattle.lcd.specs.Lcd.{with_signal, with_delay, with_window, with_lcd, with_control, with_status, with_compare, lcd_requested, screen_enabled, screen_disabled, window_line_reset, lyc_signalled, ly_equal, ly_differs, ly_compared, scanline_written, lyc_written, control_put, control_written, status_put, mode_signalled, status_written}
use Rattle.lcd.specs.declared.Screen.{Screen}

-- the changes of which the functions are made
pub record Kept (P : Screen → Type 0) : Type 1 where
  pub request : (s : Screen) → P s → P (lcd_requested s)
  pub delay : (s : Screen) → P s → P (with_lcd s (with_delay s.lcd (pos 244)))
  pub window : (s : Screen) → P s → P (with_lcd s (with_window s.lcd (pos 144)))
  pub disabled : (s : Screen) → P s → P (screen_disabled s)
  pub signal : (s : Screen) → P s → P (with_lcd s (with_signal s.lcd (set_bit s.lcd.signal 3)))
  pub equal : (s : Screen) → P s → P (with_status s (set_bit s.status 2))
  pub differs : (s : Screen) → P s → P (ly_differs s)
  pub compare : (s : Screen) (value : ℕ) → value < 256 → P s → P (with_compare s value)
  pub control : (s : Screen) (value : ℕ) → value < 256 → P s → P (with_control s value)
  pub status : (s : Screen) (value : ℕ) → P s → P (status_put s value)

module _ (P : Screen → Type 0) (k : Kept P) (s : Screen) (h : P s) where
  pub keeps_enabled : P (screen_enabled s)
  unfolding screen_enabled
  keeps_enabled = cond_both P s.lcd.disabled (k.delay s h) h

  pub keeps_disabled : P (screen_disabled s)
  keeps_disabled = k.disabled s h

  pub keeps_window : P (window_line_reset s)
  unfolding window_line_reset
  keeps_window =
      cond_both P (eqb (of_z w32 s.lcd.window) 0)
      (cond_both P (ltb s.lcd.line 144) (cond_both P (ltb s.wy s.lcd.line) (k.window s h) h) h)
      h

  keeps_signal : P (lyc_signalled s)
  unfolding lyc_signalled
  keeps_signal = cond_both P (eqb s.lcd.signal 0) (k.request _ (k.signal s h)) (k.signal s h)

  keeps_mode : P (mode_signalled s)
  unfolding mode_signalled
  keeps_mode = cond_both P (eqb s.lcd.signal 0) (cond_both P (mode_selected s.status s.lcd.mode) (k.request s h) h) h

  pub keeps_scanline : (value : ℕ) → P (scanline_written s value)
  unfolding scanline_written
  keeps_scanline value = cond_both P (is_set s.lcd.line 7) (cond_both P (is_set value 7) h (k.disabled s h)) h

module _ (P : Screen → Type 0) (k : Kept P) (s : Screen) (h : P s) where
  pub keeps_compared : P (ly_compared s)
  unfolding ly_compared ly_equal
  keeps_compared =
      let e = k.equal s h in
      cond_both P s.lcd.disabled h
      (cond_both P (eqb s.compare s.lcd.line) (cond_both P (is_set s.status 6) (keeps_signal P k _ e) e) (k.differs s h))

module _ (P : Screen → Type 0) (k : Kept P) (s : Screen) (h : P s) (value : ℕ) where
  pub keeps_lyc : value < 256 → P (lyc_written s value)
  unfolding lyc_written
  keeps_lyc b =
      let n = k.compare s value b h in
      cond_both P (eqb s.compare value) h (cond_both P (is_set s.control 7) (keeps_compared P k _ n) n)

  pub keeps_control : value < 256 → P (control_written s value)
  unfolding control_written control_put
  keeps_control b =
      let n = k.control s value b h in
      let w : P (control_put s value) = cond_both P (is_set s.control 5) n (cond_both P (is_set value 5) (keeps_window P k _ n) n) in
      cond_both P (is_set value 7) (keeps_enabled P k _ w) (k.disabled _ w)

  pub keeps_status : P (status_written s value)
  unfolding status_written
  keeps_status =
      let n = k.status s value h in
      cond_both P (is_set s.control 7) (keeps_compared P k _ (keeps_mode P k _ n)) n

pub record ScreenBytes (s : Screen) : Type 0 where
  pub line : s.lcd.line < 256
  pub signal : s.lcd.signal < 256
  pub mode : s.lcd.mode < 256
  pub control : s.control < 256
  pub status : s.status < 256
  pub compare : s.compare < 256
  pub wy : s.wy < 256
  pub flags : s.flags < 256

pub record ScreenNumbers (s : Screen) : Type 0 where
  pub delay : SFits w32 s.lcd.delay
  pub counter : SFits w32 s.lcd.counter
  pub aux : SFits w32 s.lcd.aux
  pub window : SFits w32 s.lcd.window

pub bytes : Kept ScreenBytes
bytes =
    record {
      request = λ s h. let x = set_byte (s.flags % 32) 1 (omega arith) (lit< tt) in search rules;
      delay = λ s h. search rules;
      window = λ s h. search rules;
      disabled = λ s h. search rules;
      signal = λ s h. let x = set_byte s.lcd.signal 3 h.signal (lit< tt) in search rules;
      equal = λ s h. let x = set_byte s.status 2 h.status (lit< tt) in search rules;
      differs =
          λ s h. let x = unset_byte s.status 2 h.status in
          let y = unset_byte s.lcd.signal 3 h.signal in
          search rules;
      compare = λ s value b h. search rules;
      control = λ s value b h. search rules;
      status = λ s value h. let x = and_le_l s.lcd.signal (sources value) in search rules;
    }

fits : (n : ℕ) → n < 2 ^ 31 → SFits w32 (pos n)
fits n h = record { sfits = h }

pub numbers : Kept ScreenNumbers
numbers =
    record {
      request = λ s h. search rules;
      delay = λ s h. let x = fits 244 (lit< tt) in search rules;
      window = λ s h. let x = fits 144 (lit< tt) in search rules;
      disabled = λ s h. let x = fits 0 (lit< tt) in search rules;
      signal = λ s h. search rules;
      equal = λ s h. search rules;
      differs = λ s h. search rules;
      compare = λ s value b h. search rules;
      control = λ s value b h. search rules;
      status = λ s value h. search rules;
    }
