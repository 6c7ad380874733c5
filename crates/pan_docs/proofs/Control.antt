-- FF40: what holds of the screen with the new value, and of it with another window line or delay, holds after the write.
use mathlib.Core.Bool.{true}
use mathlib.Core.Logic.{◌⊎◌, ⊎_elim}
use mathlib.Core.Path.{◌≡◌, refl, ap, ◌∙◌}
use Prim.Native.Nat.{ℕ}
use lib.Dec.{eqb, ltb}
use lib.IntN.{pos}
use mir.Syntax.{w32}
use mir.Val.{of_z}
use Rattle.bit_utils.specs.Bits.{is_set}
use Rattle.lcd.specs.Lcd.{with_lcd, with_delay, with_window, with_control}
use Rattle.lcd.specs.Lcd.{screen_enabled, screen_disabled, window_line_reset, control_put, control_written}
use Rattle.lcd.specs.declared.Screen.{Screen}
use Rattle.rules.proofs.Tests.{cond_both, cond_true, cond_false}
use Rattle.pan_docs.specs.Bits.{bit}
use Rattle.pan_docs.specs.Control.{ControlBits}
use Rattle.pan_docs.proofs.Bits.{is_set_law, is_one, is_zero}

module _ (P : Screen → Type 0) (s : Screen) where
  reset_by : P s → P (with_lcd s (with_window s.lcd (pos 144))) → P (window_line_reset s)
  unfolding window_line_reset
  reset_by p q =
      cond_both P (eqb (of_z w32 s.lcd.window) 0)
      (cond_both P (ltb s.lcd.line 144) (cond_both P (ltb s.wy s.lcd.line) q p) p)
      p

  enabled_by : P s → P (with_lcd s (with_delay s.lcd (pos 244))) → P (screen_enabled s)
  unfolding screen_enabled
  enabled_by p q = cond_both P s.lcd.disabled q p

module _ (s : Screen) (v : ℕ) where
  put_by : (P : Screen → Type 0) → P (with_control s v) → P (window_line_reset (with_control s v)) → P (control_put s v)
  unfolding control_put
  put_by P p q = cond_both P (is_set s.control 5) p (cond_both P (is_set v 5) q p)

  stored : (control_written s v).control ≡ v
  unfolding control_written
  stored =
      let e = put_by (λ (t : Screen). t.control ≡ v) refl (reset_by (λ (t : Screen). t.control ≡ v) (with_control s v) refl refl) in
      cond_both (λ (t : Screen). t.control ≡ v) (is_set v 7) (enabled_by (λ (t : Screen). t.control ≡ v) (control_put s v) e e) e

  lyc : (control_written s v).compare ≡ s.compare
  unfolding control_written
  lyc =
      let P : Screen → Type 0 = λ t. t.compare ≡ s.compare in
      let e = put_by P refl (reset_by P (with_control s v) refl refl) in
      cond_both P (is_set v 7) (enabled_by P (control_put s v) e e) e

  flags : (control_written s v).flags ≡ s.flags
  unfolding control_written
  flags =
      let P : Screen → Type 0 = λ t. t.flags ≡ s.flags in
      let e = put_by P refl (reset_by P (with_control s v) refl refl) in
      cond_both P (is_set v 7) (enabled_by P (control_put s v) e e) e

  off : bit v 7 ≡ 0 → (control_written s v).lcd.disabled ≡ true
  unfolding control_written
  off e = ap (λ (t : Screen). t.lcd.disabled) (cond_false (is_set v 7) _ (screen_disabled (control_put s v)) (is_zero v 7 e))

  on : bit v 7 ≡ 1 → (control_written s v).lcd.disabled ≡ s.lcd.disabled
  unfolding control_written
  on e =
      let P : Screen → Type 0 = λ t. t.lcd.disabled ≡ s.lcd.disabled in
      let d = put_by P refl (reset_by P (with_control s v) refl refl) in
      ap (λ (t : Screen). t.lcd.disabled) (cond_true (is_set v 7) (screen_enabled (control_put s v)) _ (is_one v 7 e))
      ∙ enabled_by P (control_put s v) d d

  -- no window goes on
  same_window : (bit s.control 5 ≡ 1) ⊎ (bit v 5 ≡ 0) → control_put s v ≡ with_control s v
  unfolding control_put
  same_window =
      ⊎_elim (λ e. cond_true _ _ _ (is_one s.control 5 e))
      (λ e. cond_both (λ (t : Screen). t ≡ with_control s v) (is_set s.control 5) refl (cond_false _ _ _ (is_zero v 5 e)))

  window_line : (bit s.control 5 ≡ 1) ⊎ (bit v 5 ≡ 0) → (control_written s v).lcd.window ≡ s.lcd.window
  unfolding control_written
  window_line w =
      let P : Screen → Type 0 = λ t. t.lcd.window ≡ s.lcd.window in
      let e : P (control_put s v) = ap (λ (t : Screen). t.lcd.window) (same_window w) in
      cond_both P (is_set v 7) (enabled_by P (control_put s v) e e) e

pub control_bits : ControlBits
control_bits =
    record {
      display = λ c. is_set_law c 7;
      window = λ c. is_set_law c 5;
      stored = stored;
      off = off;
      on = on;
      window_line = window_line;
      lyc = lyc;
      flags = flags;
    }
