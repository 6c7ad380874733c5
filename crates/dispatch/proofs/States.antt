-- The calls on the state alone: reads leave it, clearing sets the log's use, and no other changes mapper, cartridge or use (laws of crate registers).
use mathlib.Core.Bool.{Bool, true}
use mathlib.Core.Path.{◌≡◌, refl}
use Prim.Native.Nat.{ℕ, ◌%◌}
use lib.Dec.{eqb}
use Rattle.interrupt.specs.PanDocs.{first_of}
use Rattle.interrupt.specs.declared.Interrupt.{Interrupt}
use Rattle.std.specs.Prelude.{Option, Some, None}
use Rattle.interrupt.specs.Flags.{named}
use Rattle.joypad.specs.Joypad as joypad
use Rattle.lcd.specs.Lcd.{screen_enabled, screen_disabled, window_line_reset, ly_compared, scanline_written, lyc_written, control_written, status_written}
use Rattle.memory.specs.declared.Memory.{Memory}
use Rattle.numbers.specs.Numbers.{outside}
use Rattle.refusals.specs.Answers.{Byte, Flag, Waiting, changed, byte_given, flag_given, waiting_given}
use Rattle.refusals.specs.Refusal.{or_else, raw_refused, refused_state}
use Rattle.registers.proofs.Kept.{
  Kept,
  kept_refl,
  stored_kept,
  screen_kept,
  hosted_kept,
  requested_kept,
  removed_kept,
  controller_kept,
  polled_kept,
  timer_kept,
}
use Rattle.registers.specs.State.{loaded, requested_in, removed_in}
use Rattle.rules.proofs.Tests.{untrue, by_cond}
use Rattle.state_calls.specs.State.{on_interrupt, clear_log_call}
use Rattle.dispatch.specs.declared.StateCall.TheVariants as on
use Rattle.dispatch.specs.declared.Performed.{Performed}
use Rattle.dispatch.specs.declared.StateCall.{StateCall}
use Rattle.dispatch.specs.Kinds.{refused, Kind, Reading, Clearing, Other, state_kind}
use Rattle.dispatch.specs.Step.{flag_number, waiting_number, performed, performed_done, state_step}

-- a refused question gives 0

pub byte_zero : (n v : ℕ) → refused (byte_given n v).number ≡ true → (byte_given n v).value ≡ 0
unfolding byte_given
byte_zero n v =
    by_cond (λ (b : Byte). refused b.number ≡ true → b.value ≡ 0) (eqb n 0) _ _ (λ t. untrue) (λ f e. refl)

flag_zero : (n : ℕ) (v : Bool) → refused (flag_given n v).number ≡ true → flag_number (flag_given n v).value ≡ 0
unfolding flag_given
flag_zero n v =
    by_cond (λ (b : Flag). refused b.number ≡ true → flag_number b.value ≡ 0) (eqb n 0) _ _ (λ t. untrue) (λ f e. refl)

waiting_zero : (n : ℕ) (p : Option Interrupt) → refused (waiting_given n p).number ≡ true → waiting_number (waiting_given n p) ≡ 0
unfolding waiting_given
waiting_zero n p =
    by_cond (λ (b : Waiting). refused b.number ≡ true → waiting_number b ≡ 0) (eqb n 0) _ _ (λ t. untrue) (λ f e. rw f)

-- how a call on the state answers: a read leaves the state, clearing leaves all but the use, any other what its law keeps
pub data Answers (m : Memory) : Kind → Performed → Type 0 where
  reads : (n v : ℕ) → (refused n ≡ true → v ≡ 0) → Answers m Reading (performed n v m)
  changes : (n : ℕ) {next : Memory} → Kept m next → Answers m Other (performed_done (changed n m next))
  clears : Answers m Clearing (performed_done (clear_log_call m))

on_interrupt_law : (m : Memory) (f : Memory → Interrupt → Memory) → ((i : Interrupt) → Kept m (f m i)) → (p : Option Interrupt)
    → Answers m Other (performed_done (on_interrupt m f p))
on_interrupt_law m f k (Some i) = changes (refused_state m) (k i)
on_interrupt_law m f k None = changes (or_else (refused_state m) outside) (kept_refl m)

pub state_answers : (m : Memory) (c : StateCall) → Answers m (state_kind c) (state_step m c)
unfolding state_step state_kind
state_answers m (on.Load i) = reads _ _ (byte_zero (or_else (refused_state m) (raw_refused i)) (loaded m (i % 256)))
state_answers m (on.Store i v) = changes _ (stored_kept m (i % 256) v)
state_answers m (on.SetJoypadState s) = changes _ (controller_kept m (joypad.with_state m.core.joypad s))
state_answers m on.AreActionKeysEnabled = reads _ _ (flag_zero (refused_state m) (joypad.actions_answer (loaded m 0)))
state_answers m on.AreDirectionKeysEnabled = reads _ _ (flag_zero (refused_state m) (joypad.directions_answer (loaded m 0)))
state_answers m (on.DoLcdControlWrite v) = changes _ (screen_kept (λ s. control_written s v) m)
state_answers m (on.DoLcdStatusWrite v) = changes _ (screen_kept (λ s. status_written s v) m)
state_answers m (on.DoScanlineWrite v) = changes _ (screen_kept (λ s. scanline_written s v) m)
state_answers m (on.DoLycWrite v) = changes _ (screen_kept (λ s. lyc_written s v) m)
state_answers m on.CompareLyToLyc = changes _ (screen_kept ly_compared m)
state_answers m on.EnableScreen = changes _ (screen_kept screen_enabled m)
state_answers m on.DisableScreen = changes _ (screen_kept screen_disabled m)
state_answers m on.ResetWindowLine = changes _ (screen_kept window_line_reset m)
state_answers m on.GetInterrupts = reads _ _ (waiting_zero (refused_state m) (first_of (loaded m 0xFF) (loaded m 0x0F)))
state_answers m (on.RequestInterrupt n) = on_interrupt_law m requested_in (requested_kept m) (named n)
state_answers m (on.RemoveInterrupt n) = on_interrupt_law m removed_in (removed_kept m) (named n)
state_answers m on.IsHdmaEnabled = reads _ _ (flag_zero (refused_state m) m.core.hdma.on)
state_answers m (on.UpdateTimer c) = changes _ (timer_kept m c)
state_answers m (on.Press b) = changes _ (controller_kept m (joypad.press_call m.core.joypad b).controller)
state_answers m (on.Release b) = changes _ (controller_kept m (joypad.release_call m.core.joypad b).controller)
state_answers m on.UpdateJoypad = changes _ (polled_kept m)
state_answers m on.ClearLog = clears
state_answers m (on.Host lcd) = changes _ (hosted_kept m lcd)
