-- Each view can be undone: by its number, and by what it gives.
use Rattle.std.proofs.Common.{◌≡◌, ℕ, Bool, true, false, Option, Some, None, Result, Ok, Err, cond, eqb, ap, sym, refl, ◌∙◌}
use Rattle.std.specs.Result.{result_unwrap_or}
use Rattle.boundary.specs.Told.{Tells, Told}
use Rattle.dispatch.specs.Step.{flag_number, pending_number}
use Rattle.entry.specs.Entry as entry
use Rattle.entry.specs.Host.{numbers_shown, Shown, shown_of}
use Rattle.image.specs.Layout.{bit}
use Rattle.interrupt.specs.declared.Interrupt.{Interrupt}
use Rattle.interrupt.specs.declared.Interrupt.TheVariants.{Vblank, Lcd, Timer, Serial, Joypad}
use Rattle.lcd.specs.Lcd.{numbers_of}
use Rattle.lcd.specs.declared.Lcd as screen
use Rattle.memory.specs.Start.{zeroed}
use Rattle.memory.specs.declared.Memory.{Memory}
use Rattle.numbers.proofs.One.{answered, answered_back}
use Rattle.numbers.specs.Numbers.{done}
use Rattle.numbers.specs.Refusal.{number_given}
use Rattle.numbers.specs.declared.Refusal.{Refusal}
use Rattle.refusals.specs.Answers.{Done, done_of, Byte, byte_of, Word, word_of, Flag, flag_of, Waiting, waiting_of}

undone : {T V : Type 0} (view : Result T Refusal → V) (back : V → Result T Refusal) → ((r : Result T Refusal) → back (view r) ≡ r) → Tells view
undone view back same r s e = sym (same r) ∙ ap back e ∙ same s

flag_back : ℕ → Bool
flag_back n = eqb n 1

flag_same : (b : Bool) → flag_back (flag_number b) ≡ b
unfolding flag_back
flag_same true = refl
flag_same false = refl

flag_given_back : (r : Result Bool Refusal) → answered (entry.flag_given_of r).number (flag_back (entry.flag_given_of r).value) ≡ r
flag_given_back r = ap (answered (number_given r)) (flag_same (result_unwrap_or r false)) ∙ answered_back r false

pending_back : ℕ → Option Interrupt
pending_back n =
    cond (eqb n 0) (Some Vblank) (cond (eqb n 1) (Some Lcd) (cond (eqb n 2) (Some Timer) (cond (eqb n 3) (Some Serial) (cond (eqb n 4) (Some Joypad) None))))

pending_same : (p : Option Interrupt) → pending_back (pending_number p) ≡ p
unfolding pending_back
pending_same None = refl
pending_same (Some Vblank) = refl
pending_same (Some Lcd) = refl
pending_same (Some Timer) = refl
pending_same (Some Serial) = refl
pending_same (Some Joypad) = refl

waiting_back : (r : Result (Option Interrupt) Refusal) → answered (entry.waiting_of r).number (pending_back (entry.waiting_of r).value) ≡ r
waiting_back (Ok p) = ap (answered done) (pending_same p) ∙ answered_back (Ok p) None
waiting_back (Err e) = answered_back (Err e) (pending_back 0)

bit_same : (b : Bool) → flag_back (bit b) ≡ b
unfolding flag_back
bit_same true = refl
bit_same false = refl

lcd_back : Shown → screen.Lcd
lcd_back s = numbers_of (flag_back s.disabled) s.line s.signal s.mode s.delay s.counter s.aux s.window

lcd_same : (n : ℕ) (l : screen.Lcd) → lcd_back (shown_of n l) ≡ l
unfolding lcd_back
lcd_same n l = ap (λ b. numbers_of b l.line l.signal l.mode l.delay l.counter l.aux l.window) (bit_same l.disabled)

numbers_back : (r : Result screen.Lcd Refusal) → answered (numbers_shown r).number (lcd_back (numbers_shown r)) ≡ r
numbers_back r = ap (answered (number_given r)) (lcd_same _ (result_unwrap_or r zeroed.core.lcd)) ∙ answered_back r zeroed.core.lcd

pub answers_told : Told
answers_told = record {
  done = λ m. undone (done_of m) (λ (d : Done). answered d.number d.memory) (λ r. answered_back r m);
  byte = undone byte_of (λ (b : Byte). answered b.number b.value) (λ r. answered_back r 0);
  word = undone word_of (λ (b : Word). answered b.number b.value) (λ r. answered_back r 0);
  flag = undone flag_of (λ (b : Flag). answered b.number b.value) (λ r. answered_back r false);
  waiting = undone waiting_of (λ (b : Waiting). answered b.number b.pending) (λ r. answered_back r None);
  given = undone entry.given_of (λ (g : entry.Given). answered g.number g.value) (λ r. answered_back r 0);
  flag_given = undone entry.flag_given_of (λ (g : entry.Given). answered g.number (flag_back g.value)) flag_given_back;
  waiting_given = undone entry.waiting_of (λ (g : entry.Given). answered g.number (pending_back g.value)) waiting_back;
  numbers = undone numbers_shown (λ (g : Shown). answered g.number (lcd_back g)) numbers_back;
}
