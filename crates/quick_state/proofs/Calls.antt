-- Calls that have a number of their own to refuse by, or a value to give: a byte of the page, a button, an interrupt, the timer. What they share with all calls
-- on an image stands in crate entry (proofs/Held.antt).
use mathlib.Core.Bool.{Bool, true, false, cond}
use mathlib.Core.List.{List}
use mathlib.Core.Path.{◌≡◌, refl, sym, ap, ◌∙◌}
use Prim.Native.Nat.{ℕ, ◌%◌, ◌<◌, ◌≤◌}
use native.Mathlib.Omega.{arith}
use lib.Dec.{leb, ltb}
use borrow.Author.Tests.{ne_eqb}
use Rattle.dispatch.specs.Step.{state_step, performed, performed_done, pending_number}
use Rattle.dispatch.specs.declared.StateCall.{StateCall}
use Rattle.dispatch.specs.declared.StateCall.TheVariants as on
use Rattle.entry.proofs.Entries.{asked}
use Rattle.entry.proofs.Held.{passes, state_done, own_refused, own_done}
use Rattle.entry.specs.Entry.{Given, changed, state_entry, given, ask_entry}
use Rattle.image.specs.Layout.{image_of}
use Rattle.image.specs.Load.{load_call}
use Rattle.in_place.proofs.Images.{state}
use Rattle.in_place.specs.Held.{Held}
use Rattle.input_calls.proofs.Cycles.{cycles_pass}
use Rattle.input_calls.specs.Input.{button_call}
use Rattle.interrupt.specs.Flags.{named}
use Rattle.interrupt.specs.PanDocs.{first_of}
use Rattle.interrupt.specs.declared.Interrupt.{Interrupt}
use Rattle.joypad.specs.Joypad as joypad
use Rattle.joypad.specs.declared.Controller.{Controller}
use Rattle.joypad.specs.Joypad.{Pressed}
use Rattle.joypad.specs.declared.buttons.Button.{Button}
use Rattle.memory.specs.declared.Memory.{Memory}
use Rattle.numbers.proofs.Named.{name_of_ok, none_of_err}
use Rattle.numbers.specs.Refusal.{refusal_number, number_given}
use Rattle.numbers.specs.declared.Refusal.{Refusal}
use Rattle.numbers.specs.declared.Refusal.TheVariants.{Outside}
use Rattle.refusals.specs.Answers as answer
use Rattle.std.specs.Option.{ok_or}
use Rattle.std.specs.Prelude.{Option, Some, None, Ok, Err}
use Rattle.refusals.specs.Refusal.{or_else, raw_refused, cycles_refused}
use Rattle.registers.specs.State.{loaded, timer_of, with_timer, with_controller}
use Rattle.state_calls.specs.State.{on_interrupt}
use Rattle.timer.specs.Timer.{updated}

-- a number that names nothing is refused by 7
its_number : (x : Option Interrupt) {e : Refusal} → Err e ≡ ok_or x Outside → refusal_number e ≡ 7
its_number None q = ap number_given q
its_number (Some y) q = cc

pub past_last : (n : ℕ) → 4 < n → Err Outside ≡ ok_or (named n) Outside
unfolding named
past_last n h =
    rw (ne_eqb n 0 (λ e. omega (arith, h, e)), ne_eqb n 1 (λ e. omega (arith, h, e)), ne_eqb n 2 (λ e. omega (arith, h, e)), ne_eqb n 3 (λ e. omega (arith, h, e)), ne_eqb n 4 (λ e. omega (arith, h, e)))

-- the numbers by which a call itself refuses are those of a refusal

module _ {k : ℕ} (h : k ≡ 0 → ⊥) where
  abbrev Refuses : ℕ → Type 0
  Refuses n = k ≡ n → 1 < k

  first_due : (n : ℕ) (b : Bool) → 1 < n → Refuses (cond b n 0)
  first_due n true l e = rw e l
  first_due n false l e = absurd (h e)

  second_due : (n : ℕ) (b : Bool) → 1 < n → Refuses (cond b 0 n)
  second_due n true l e = absurd (h e)
  second_due n false l e = rw e l

  pub raw_due : (x : ℕ) → Refuses (raw_refused x)
  unfolding raw_refused
  raw_due x = first_due 7 (ltb x 0xFF00) (omega arith)

  pub cycles_due : (n : ℕ) → Refuses (cycles_refused n)
  unfolding cycles_refused
  cycles_due n = second_due 5 (leb n 65536) (omega arith)

  button_due : (f : Controller → Button → Controller) (c : Controller) (x : Option Button) → Refuses (joypad.on_button f c x).number
  button_due f c (Some b) e = absurd (h e)
  button_due f c None e = rw e (omega arith)

module _ (i : List ℕ) (h : Held i) where
  -- a byte of the page, raw
  module _ (x : ℕ) {k : ℕ} (e : k ≡ raw_refused x) where
    pub load_refused : (k ≡ 0 → ⊥) → {r : Given} → r ≡ given k 0 → r ≡ ask_entry i (on.Load x)
    unfolding state_step answer.byte_given or_else
    load_refused z f =
        f ∙ asked i {d = load_call i} refl h.1 (on.Load x) {p = performed k 0 (state i h)} (rw (passes i h, ← e, ne_eqb k 0 z))

    pub load_given : k ≡ 0 → {v : ℕ} → v ≡ loaded (state i h) (x % 256) → given 0 v ≡ ask_entry i (on.Load x)
    unfolding state_step answer.byte_given or_else
    load_given z {v} g =
        asked i {d = load_call i} refl h.1 (on.Load x) {p = performed 0 v (state i h)} (rw (passes i h, ← e, z, ← g))

  -- a button
  module _ (c : StateCall) (f : Controller → Button → Controller) {k : Controller} (x : Option Button)
      (s : performed_done (button_call (state i h) (joypad.on_button f (state i h).core.joypad x)) ≡ state_step (state i h) c)
      (a : k ≡ (state i h).core.joypad) {p : Pressed} (e : p ≡ joypad.on_button f k x) where
    same : p ≡ joypad.on_button f (state i h).core.joypad x
    same = e ∙ ap (λ (y : Controller). joypad.on_button f y x) a

    number : p.number ≡ (joypad.on_button f (state i h).core.joypad x).number
    number = ap (λ (q : Pressed). q.number) same

    pub button_refused : (p.number ≡ 0 → ⊥) → changed p.number i ≡ state_entry i c
    button_refused z = own_refused i h c _ s number (button_due z f (state i h).core.joypad x number)

    pub button_done : p.number ≡ 0 → {j : List ℕ} → j ≡ image_of (with_controller (state i h) p.controller) → changed 0 j ≡ state_entry i c
    button_done z g = own_done i h c _ s number z (g ∙ ap (λ (q : Pressed). image_of (with_controller (state i h) q.controller)) same)

  -- Interrupts: which is served first; a request and a removal, each by what it makes of the state

  pub pending_given : {p : Option Interrupt} → p ≡ first_of (loaded (state i h) 0xFF) (loaded (state i h) 0x0F) → {v : ℕ} → v ≡ pending_number p
      → given 0 v ≡ ask_entry i on.GetInterrupts
  unfolding state_step answer.waiting_given
  pending_given {p} e {v} f =
      asked i {d = load_call i} refl h.1 on.GetInterrupts {p = performed 0 v (state i h)} (rw (passes i h, ← e, f))

  module _ (f : Memory → Interrupt → Memory) (n : ℕ) (c : StateCall) (s : performed_done (on_interrupt (state i h) f (named n)) ≡ state_step (state i h) c)
    where
      unnamed_is : None ≡ named n → changed 7 i ≡ state_entry i c
      unnamed_is e = own_refused i h c (state i h) (ap (λ (x : Option Interrupt). performed_done (on_interrupt (state i h) f x)) e ∙ s) refl (omega arith)

      -- by what the number names, or by its refusal
      pub unnamed : {e : Refusal} → Err e ≡ ok_or (named n) Outside → changed (refusal_number e) i ≡ state_entry i c
      unnamed q = rw (its_number (named n) q) (unnamed_is (sym (none_of_err (named n) Outside q)))

      pub flagged : {k : Interrupt} → Ok k ≡ ok_or (named n) Outside → {j : List ℕ} → j ≡ image_of (f (state i h) k) → changed 0 j ≡ state_entry i c
      flagged {k} q g = state_done i h c (f (state i h) k) (ap (λ (x : Option Interrupt). performed_done (on_interrupt (state i h) f x)) (sym (name_of_ok (named n) Outside q)) ∙ s) g

  -- The timer

  module _ (n : ℕ) {k : ℕ} (e : k ≡ cycles_refused n) where
    pub timer_refused : (k ≡ 0 → ⊥) → changed k i ≡ state_entry i (on.UpdateTimer n)
    unfolding state_step
    timer_refused z = own_refused i h (on.UpdateTimer n) _ refl e (cycles_due z n e)

    module _ (z : k ≡ 0) where
      pub cycles_below : n ≤ 65536
      cycles_below = cycles_pass n (sym e ∙ z)

      pub timer_done : {j : List ℕ} → j ≡ image_of (with_timer (state i h) (updated (timer_of (state i h)) n)) → changed 0 j ≡ state_entry i (on.UpdateTimer n)
      unfolding state_step
      timer_done g = own_done i h (on.UpdateTimer n) _ refl e z g
