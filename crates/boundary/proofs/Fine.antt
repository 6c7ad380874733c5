-- A state of the code's types stays one under the calls on the state alone: by the laws of the crate in_place for the parts and the registers.
use Prim.Native.Nat.{ℕ, ◌%◌, ◌<◌}
use native.Mathlib.Omega.{arith}
use lib.Dec.{eqb, lit<}
use Rattle.bit_utils.proofs.Laws.{set_byte, unset_byte}
use Rattle.dispatch.specs.Step.{state_step}
use Rattle.dispatch.specs.declared.StateCall.{StateCall}
use Rattle.dispatch.specs.declared.StateCall.TheVariants as on
use Rattle.in_place.proofs.Fine.{Fine, page_set, used_fine, joypad_fine, lcd_fine, clock_fine, stored_fine, loaded_byte, on_screen_law, control_fine, status_fine, scanline_fine, lyc_fine}
use Rattle.interrupt.specs.Flags.{named}
use Rattle.interrupt.specs.PanDocs.{bit_of}
use Rattle.interrupt.specs.declared.Interrupt.{Interrupt}
use Rattle.interrupt.specs.declared.Interrupt.TheVariants.{Vblank, Lcd as LcdLine, Timer as TimerLine, Serial, Joypad}
use Rattle.std.specs.Prelude.{Option}
use Rattle.std.specs.Prelude.{Some, None}
use Rattle.joypad.proofs.Bytes.{press_bytes, release_bytes, update_bytes}
use Rattle.lcd.proofs.Laws as lcd
use Rattle.memory.specs.declared.Memory.{Memory}
use Rattle.refusals.specs.Answers.{changed}
use Rattle.refusals.specs.Answers.{Done}
use Rattle.registers.specs.State.{loaded, timer_of, with_timer, requested_in, removed_in, polled_in}
use Rattle.rules.proofs.Tests.{cond_both}
use Rattle.state_calls.specs.State.{on_interrupt}
use Rattle.timer.proofs.Laws as timer
use Rattle.timer.specs.Promises.{Ready}
use Rattle.timer.specs.Timer.{updated}
use Rattle.boundary.specs.Types.{StateTyped}

module _ {m : Memory} (f : Fine m) where
  timer_ready : Ready (timer_of m)
  timer_ready =
      record {
        div = loaded_byte f 0x04;
        tima = loaded_byte f 0x05;
        tma = loaded_byte f 0x06;
        tac = loaded_byte f 0x07;
        flags = loaded_byte f 0x0F;
        div_cycles_law = f.clock.0;
        tima_cycles_law = f.clock.1;
      }

  timer_fine : (c : ℕ) → Fine (with_timer m (updated (timer_of m) c))
  timer_fine c =
      let r = timer.update_ready (timer_of m) c timer_ready in
      clock_fine f (r.div_cycles_law, r.tima_cycles_law) (page_set 0x0F (page_set 0x05 (page_set 0x04 f.page r.div) r.tima) r.flags)

  polled_fine : Fine (polled_in m)
  polled_fine =
      let u = update_bytes m.core.joypad (loaded m 0x00) (loaded m 0x0F) f.joypad (loaded_byte f 0x0F) in
      joypad_fine f u.0 (page_set 0x0F f.page u.1)

  changed_fine : (n : ℕ) {next : Memory} → Fine next → Fine (changed n m next).memory
  unfolding changed
  changed_fine n next = cond_both (λ (d : Done). Fine d.memory) (eqb n 0) next f

  on_interrupt_law : (g : Memory → Interrupt → Memory) → ((i : Interrupt) → Fine (g m i)) → (p : Option Interrupt) → Fine (on_interrupt m g p).memory
  on_interrupt_law g k (Some i) = changed_fine _ (k i)
  on_interrupt_law g k None = changed_fine _ f

  line_bit : (i : Interrupt) → bit_of i < 8
  line_bit Vblank = lit< tt
  line_bit LcdLine = lit< tt
  line_bit TimerLine = lit< tt
  line_bit Serial = lit< tt
  line_bit Joypad = lit< tt

  pub state_fine : (c : StateCall) → StateTyped c → Fine (state_step m c).memory
  unfolding state_step
  state_fine (on.Load i) t = f
  state_fine (on.Store i v) t = changed_fine _ (stored_fine f (i % 256) t)
  state_fine (on.SetJoypadState s) t = changed_fine _ (joypad_fine f (f.joypad.0, t) f.page)
  state_fine on.AreActionKeysEnabled t = f
  state_fine on.AreDirectionKeysEnabled t = f
  state_fine (on.DoLcdControlWrite v) t = changed_fine _ (control_fine f v t)
  state_fine (on.DoLcdStatusWrite v) t = changed_fine _ (status_fine f v t)
  state_fine (on.DoScanlineWrite v) t = changed_fine _ (scanline_fine f v t)
  state_fine (on.DoLycWrite v) t = changed_fine _ (lyc_fine f v t)
  state_fine on.CompareLyToLyc t = changed_fine _ (on_screen_law f _ (λ P k h. lcd.keeps_compared P k _ h))
  state_fine on.EnableScreen t = changed_fine _ (on_screen_law f _ (λ P k h. lcd.keeps_enabled P k _ h))
  state_fine on.DisableScreen t = changed_fine _ (on_screen_law f _ (λ P k h. lcd.keeps_disabled P k _ h))
  state_fine on.ResetWindowLine t = changed_fine _ (on_screen_law f _ (λ P k h. lcd.keeps_window P k _ h))
  state_fine on.GetInterrupts t = f
  state_fine (on.RequestInterrupt n) t =
      on_interrupt_law requested_in (λ i. stored_fine f 0x0F (set_byte (loaded m 0x0F % 32) (bit_of i) (omega arith) (line_bit i))) (named n)
  state_fine (on.RemoveInterrupt n) t =
      on_interrupt_law removed_in (λ i. stored_fine f 0x0F (unset_byte (loaded m 0x0F % 32) (bit_of i) (omega arith))) (named n)
  state_fine on.IsHdmaEnabled t = f
  state_fine (on.UpdateTimer c) t = changed_fine _ (timer_fine c)
  state_fine (on.Press b) t = changed_fine _ (joypad_fine f (press_bytes m.core.joypad b f.joypad) f.page)
  state_fine (on.Release b) t = changed_fine _ (joypad_fine f (release_bytes m.core.joypad b f.joypad) f.page)
  state_fine on.UpdateJoypad t = changed_fine _ polled_fine
  state_fine on.ClearLog t = changed_fine _ (used_fine f 0)
  state_fine (on.Host lcd) t = changed_fine _
      (lcd_fine f
      (record {
        line = t.line;
        signal = t.signal;
        mode = t.mode;
        delay = t.delay;
        counter = t.counter;
        aux = t.aux;
        window = t.window;
      })
      f.page)
