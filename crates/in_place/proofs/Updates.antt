-- The updates that the loop of a host makes at every step. The timer's: DIV's part, the steps of TIMA, and the remainders. The joypad's, with no mark: the
-- state alone, or nothing.
use mathlib.Core.Bool.{Bool, false}
use mathlib.Core.List.{List}
use mathlib.Core.Path.{◌≡◌, refl, sym, ap, subst, ◌∙◌}
use Prim.Native.Nat.{ℕ, ◌+◌, ◌*◌, ◌%◌, ◌<◌}
use native.Mathlib.Nat.{add-zero}
use native.Mathlib.Omega.{arith}
use lib.ListN.{get_or, set}
use lib.Seq.{get_or-set_other, set-get_or}
use Rattle.image.proofs.PatchLaws.{joypad_bytes, div_byte}
use Rattle.image.proofs.StateLaws.{storable_state}
use Rattle.image.specs.Layout.{image_of}
use Rattle.image.specs.Load.{clock_of}
use Rattle.image.specs.Patches.{fields, put, joypad_fields, clock_put}
use Rattle.joypad.proofs.Laws.{unmarked_polled}
use Rattle.joypad.specs.Joypad.{with_state, marked}
use Rattle.joypad.specs.declared.Controller.{Controller}
use Rattle.memory.proofs.Laws.{range_clock}
use Rattle.memory.specs.declared.Clock.{Clock}
use Rattle.memory.specs.declared.Core.{Core}
use Rattle.registers.specs.State.{loaded, timer_of, with_timer, with_controller, polled_in}
use Rattle.timer.proofs.AtOnce.{before, counted_at_once}
use Rattle.timer.proofs.Laws.{update_ready}
use Rattle.timer.specs.AtOnce.{periods_in}
use Rattle.timer.specs.Overflow.{cycles_left, left_of}
use Rattle.timer.specs.PanDocs.{counting}
use Rattle.timer.specs.Promises.{Ready}
use Rattle.timer.specs.Timer.{divided_of, divided, updated}
use Rattle.timer.specs.declared.Divided.{Divided}
use Rattle.timer.specs.declared.Periods.{Periods}
use Rattle.timer.specs.declared.Timer.{Timer}
use Rattle.in_place.specs.Held.{Held}
use Rattle.in_place.specs.Steps.{stepped_at, stepped_in}
use Rattle.in_place.proofs.Groups.{timer_read, timer_in, timer_image}
use Rattle.in_place.proofs.Images.{state, held, byte, core, put_joypad}

-- no step: both bytes are put as they are
pub no_step : (i : List ℕ) → get_or i 0x105 0 < 256 → i ≡ stepped_in i 0
unfolding stepped_in
no_step i h =
    rw (before (get_or i 0x105 0) (get_or i 0x106 0) (get_or i 0x10F 0) 0 (omega arith), add-zero, set-get_or i 0x105 0, set-get_or i 0x10F 0)

-- DIV put before them
step_beside : (i : List ℕ) (v n : ℕ) → stepped_in (set i 0x104 v) n ≡ set (set (set i 0x104 v) 0x105 (stepped_at i n).tima) 0x10F (stepped_at i n).flags
unfolding stepped_in
step_beside i v n =
    let o : (k : ℕ) → 0x104 < k → get_or (set i 0x104 v) k 0 ≡ get_or i k 0 = λ k l. get_or-set_other i 0x104 k v 0 (λ e. omega (arith, e, l)) in
    rw (o 0x105 (omega arith), o 0x106 (omega arith), o 0x10F (omega arith))

module _ (i : List ℕ) (h : Held i) where
  -- The timer

  ready : Ready (timer_of (state i h))
  ready =
      let t = (held i h).typed in
      let k = range_clock (state i h) (storable_state (state i h) (held i h).storable) in
      let p = t.page.1 in
      record { div = p 0x04; tima = p 0x05; tma = p 0x06; tac = p 0x07; flags = p 0x0F; div_cycles_law = div_byte t; tima_cycles_law = omega arith }

  clock_in : {c : Clock} → c ≡ clock_of (fields i) → c ≡ (state i h).core.clock
  clock_in e = e ∙ ap (λ (k : Core). k.clock) (core i h)

  -- what the code reads, and what it puts
  module _ (n : ℕ) {c : Clock} (e : c ≡ clock_of (fields i)) {d : Divided} (p : d ≡ divided_of ((256 * get_or i 0x104 0 + c.div + n) % 65536))
      {q : Periods} (f : q ≡ periods_in (get_or i 0x107 0) c.tima n) where
    abbrev read : Timer
    read = timer_read i c

    read_ready : Ready read
    read_ready = rw (timer_in i h e) ready

    abbrev after : Timer
    after =
        record {
          div = d.div;
          tima = (stepped_at i q.full).tima;
          tma = get_or i 0x106 0;
          tac = get_or i 0x107 0;
          flags = (stepped_at i q.full).flags;
          div_cycles = d.cycles;
          tima_cycles = q.rest;
        }

    is_after : updated read n ≡ after
    unfolding divided
    is_after = rw p (counted_at_once (divided read n) n f read_ready.tima read_ready.tma refl)

    after_ready : Ready after
    after_ready = subst Ready is_after (update_ready read n read_ready)

    pub rest_below : q.rest < 1024
    rest_below = after_ready.tima_cycles_law

    pub timer_updated : {j k : List ℕ} → j ≡ stepped_in (set i 0x104 d.div) q.full → k ≡ clock_put j (record { div = d.cycles; tima = q.rest })
        → k ≡ image_of (with_timer (state i h) (updated (timer_of (state i h)) n))
    timer_updated a b =
        timer_image i h after after_ready (rw (a, step_beside i d.div q.full) at b)
        ∙ ap (λ (u : Timer). image_of (with_timer (state i h) u)) (sym is_after ∙ ap (λ (u : Timer). updated u n) (timer_in i h e))

  pub left_in : {c : Clock} → c ≡ clock_of (fields i) → {r : ℕ} → r ≡ cycles_left (get_or i 0x107 0) (get_or i 0x105 0) c.tima
      → r ≡ left_of (timer_of (state i h))
  left_in e f =
      let m = state i h in
      f
      ∙ ap (λ (x : Clock). cycles_left (get_or i 0x107 0) (get_or i 0x105 0) x.tima) (clock_in e)
      ∙ ap (λ (x : ℕ). cycles_left x (get_or i 0x105 0) m.core.clock.tima) (byte i h 0x07 (omega arith))
      ∙ ap (λ (x : ℕ). cycles_left (loaded m 0x07) x m.core.clock.tima) (byte i h 0x05 (omega arith))

  pub counting_in : {b : Bool} → b ≡ counting (get_or i 0x107 0) → b ≡ counting (timer_of (state i h)).tac
  counting_in e = e ∙ ap counting (byte i h 0x07 (omega arith))

  -- The joypad

  module _ {k : Controller} (a : k ≡ (state i h).core.joypad) (u : marked k ≡ false) where
    quiet : polled_in (state i h) ≡ with_controller (state i h) (with_state k k.released)
    quiet =
        let m = state i h in
        let p = unmarked_polled k (loaded m 0x00) (loaded m 0x0F) u in
        rw (← a, p, set-get_or m.page 0x0F 0)

    pub unmarked_image : {j : List ℕ} → j ≡ put (joypad_fields (with_state k k.released)) i → j ≡ image_of (polled_in (state i h))
    unmarked_image e =
        let t = (held i h).typed in
        e ∙ (put_joypad (held i h) (with_state k k.released) (rw a ((joypad_bytes t).0, (joypad_bytes t).0))).same ∙ ap image_of (sym quiet)

    pub unmarked_same : k.state ≡ k.released → i ≡ image_of (polled_in (state i h))
    unmarked_same e =
        let m = state i h in
        (held i h).same
        ∙ ap image_of (sym (quiet ∙ ap (λ (x : ℕ). with_controller m (with_state k x)) (sym e) ∙ ap (with_controller m) a))
