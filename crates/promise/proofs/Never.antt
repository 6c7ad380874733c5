-- Where the state is in range, no call is refused by 3, for no other refusal has that number.
use mathlib.Core.Bool.{Bool, false, cond, ◌&&◌}
use mathlib.Core.Path.{◌≡◌, refl, ap}
use Prim.Native.Nat.{ℕ}
use lib.Dec.{eqb, ltb, leb}
use Rattle.dispatch.specs.declared.StateCall.{StateCall}
use Rattle.interrupt.specs.Flags.{named}
use Rattle.interrupt.specs.declared.Interrupt.{Interrupt}
use Rattle.std.specs.Prelude.{Option, Some, None}
use Rattle.joypad.specs.Joypad as joypad
use Rattle.joypad.specs.declared.buttons.Button.{Button}
use Rattle.joypad.specs.declared.Controller.{Controller}
use Rattle.memory.specs.Ranges.{vram_len}
use Rattle.memory.specs.Region.{vram_start, save_start, page_start}
use Rattle.memory.specs.World.{World}
use Rattle.memory.specs.declared.Memory.{Memory}
use Rattle.numbers.specs.Numbers.{done, owed, no_room, out_of_range, wrong_length, too_many_cycles, outside}
use Rattle.refusals.specs.Answers.{Byte}
use Rattle.refusals.specs.Answers.{Flag}
use Rattle.refusals.specs.Answers.{Waiting}
use Rattle.refusals.specs.Answers.{Word}
use Rattle.rules.proofs.Tests.{cond_both}
use Rattle.savelog.specs.Log.{full}
use Rattle.registers.specs.State.{requested_in, removed_in}
use Rattle.state_calls.specs.State.{on_interrupt}
use Rattle.promise.specs.Bus.{Outcome, Done, in_save}
use Rattle.promise.specs.Bus.on as on
use Rattle.promise.proofs.Bus.{
  or_else,
  lengths_fit,
  lengths_refused,
  either_in_save,
  byte_room,
  word_room,
  raw_refused,
  cycles_refused,
  vram_length_refused,
  vram_refused,
  has_bank,
  refused_state,
  changed,
  byte_given,
  word_given,
  flag_given,
  waiting_given,
  unless,
  state_step,
}

abbrev pub Clear : ℕ → Type 0
Clear n = eqb n out_of_range ≡ false

cond_clear : (b : Bool) (x y : ℕ) → Clear x → Clear y → Clear (cond b x y)
cond_clear b x y p q = cond_both Clear b p q

pub or_clear : (n k : ℕ) → Clear n → Clear k → Clear (or_else n k)
unfolding or_else
or_clear n k a b = cond_both Clear (eqb n done) b a

pub unless_clear : (n : ℕ) (w : World) (o : Outcome) → Clear n → Clear o.number → Clear (unless n w o).number
unfolding unless
unless_clear n w o a b = cond_both (λ (p : Outcome). Clear p.number) (eqb n done) b a

changed_clear : (n : ℕ) (m next : Memory) → Clear n → Clear (changed n m next).number
unfolding changed
changed_clear n m next a = cond_both (λ (d : Done). Clear d.number) (eqb n done) refl a

pub byte_clear : (n v : ℕ) → Clear n → Clear (byte_given n v).number
unfolding byte_given
byte_clear n v a = cond_both (λ (b : Byte). Clear b.number) (eqb n done) refl a

pub word_clear : (n v : ℕ) → Clear n → Clear (word_given n v).number
unfolding word_given
word_clear n v a = cond_both (λ (b : Word). Clear b.number) (eqb n done) refl a

flag_clear : (n : ℕ) (v : Bool) → Clear n → Clear (flag_given n v).number
unfolding flag_given
flag_clear n v a = cond_both (λ (b : Flag). Clear b.number) (eqb n done) refl a

waiting_clear : (n : ℕ) (p : Option Interrupt) → Clear n → Clear (waiting_given n p).number
unfolding waiting_given
waiting_clear n p a = cond_both (λ (b : Waiting). Clear b.number) (eqb n done) refl a

pub lengths_clear : (m : Memory) (rom vram wram save sound : ℕ) → Clear (lengths_refused m.core rom vram wram save sound)
unfolding lengths_refused
lengths_clear m rom vram wram save sound = cond_both Clear (lengths_fit m.core rom vram wram save sound) refl refl

raw_clear : (i : ℕ) → Clear (raw_refused i)
unfolding raw_refused
raw_clear i = cond_clear (ltb i page_start) outside done refl refl

cycles_clear : (c : ℕ) → Clear (cycles_refused c)
unfolding cycles_refused
cycles_clear c = cond_clear (leb c 65536) done too_many_cycles refl refl

pub vram_length_clear : (colour : Bool) (n : ℕ) → Clear (vram_length_refused colour n)
unfolding vram_length_refused
vram_length_clear colour n = cond_clear (eqb n (vram_len colour)) done wrong_length refl refl

pub vram_clear : (colour : Bool) (i bank : ℕ) → Clear (vram_refused colour i bank)
unfolding vram_refused
vram_clear colour i bank =
    let b = leb vram_start i && ltb i save_start in
    cond_clear (has_bank colour bank) (cond b done outside) outside (cond_clear b done outside refl refl) refl

pub byte_room_clear : (used log i : ℕ) → Clear (byte_room used log i)
unfolding byte_room
byte_room_clear used log i = cond_clear (in_save i && full log used 1) no_room done refl refl

pub word_room_clear : (used log i : ℕ) → Clear (word_room used log i)
unfolding word_room
word_room_clear used log i = cond_clear (either_in_save i && full log used 2) no_room done refl refl

pub owed_clear : (b : Bool) → Clear (cond b owed done)
owed_clear b = cond_clear b owed done refl refl

button_clear : (f : Controller → Button → Controller) (c : Controller) (n : Option Button) → Clear (joypad.on_button f c n).number
button_clear f c (Some b) = refl
button_clear f c None = refl

module _ (m : Memory) (z : refused_state m ≡ done) where
  pub state_clear : Clear (refused_state m)
  state_clear = ap (λ (n : ℕ). eqb n out_of_range) z

  line_clear : (f : Memory → Interrupt → Memory) (p : Option Interrupt) → Clear (on_interrupt m f p).number
  line_clear f (Some i) = changed_clear _ m _ state_clear
  line_clear f None = changed_clear _ m _ (or_clear _ _ state_clear refl)

  pub alone_clear : (c : StateCall) → Clear (state_step m c).number
  unfolding state_step
  alone_clear (on.Load i) = byte_clear _ _ (or_clear _ _ state_clear (raw_clear i))
  alone_clear (on.Store i v) = changed_clear _ m _ (or_clear _ _ state_clear (raw_clear i))
  alone_clear (on.SetJoypadState s) = changed_clear _ m _ state_clear
  alone_clear on.AreActionKeysEnabled = flag_clear _ _ state_clear
  alone_clear on.AreDirectionKeysEnabled = flag_clear _ _ state_clear
  alone_clear (on.DoLcdControlWrite v) = changed_clear _ m _ state_clear
  alone_clear (on.DoLcdStatusWrite v) = changed_clear _ m _ state_clear
  alone_clear (on.DoScanlineWrite v) = changed_clear _ m _ state_clear
  alone_clear (on.DoLycWrite v) = changed_clear _ m _ state_clear
  alone_clear on.CompareLyToLyc = changed_clear _ m _ state_clear
  alone_clear on.EnableScreen = changed_clear _ m _ state_clear
  alone_clear on.DisableScreen = changed_clear _ m _ state_clear
  alone_clear on.ResetWindowLine = changed_clear _ m _ state_clear
  alone_clear on.GetInterrupts = waiting_clear _ _ state_clear
  alone_clear (on.RequestInterrupt n) = line_clear requested_in (named n)
  alone_clear (on.RemoveInterrupt n) = line_clear removed_in (named n)
  alone_clear on.IsHdmaEnabled = flag_clear _ _ state_clear
  alone_clear (on.UpdateTimer c) = changed_clear _ m _ (or_clear _ _ state_clear (cycles_clear c))
  alone_clear (on.Press b) = changed_clear _ m _ (or_clear _ _ state_clear (button_clear joypad.after_press m.core.joypad (joypad.named b)))
  alone_clear (on.Release b) = changed_clear _ m _ (or_clear _ _ state_clear (button_clear joypad.after_release m.core.joypad (joypad.named b)))
  alone_clear on.UpdateJoypad = changed_clear _ m _ state_clear
  alone_clear on.ClearLog = changed_clear _ m _ state_clear
  alone_clear (on.Host lcd) = changed_clear _ m _ state_clear
