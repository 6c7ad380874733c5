-- What is seen on a bus on which every call can be made, without the tests of 3 and 4: these read every lent length, which no computed row needs to do.
use mathlib.Core.Bool.{true}
use mathlib.Core.List.{List, [], ◌∷◌}
use mathlib.Core.Path.{◌≡◌, refl, ap}
use Prim.Native.Nat.{ℕ}
use lib.Dec.{eqb}
use lib.ListN.{length}
use Rattle.bus.specs.Calls.{Outcome, outcome, unless}
use Rattle.dispatch.proofs.Open.{Good, stays_good, alone_open, read_number, write_number}
use Rattle.dispatch.specs.Lent.{fits}
use Rattle.dispatch.specs.Step.{in_world, performed_done, state_step, step}
use Rattle.joypad.specs.Joypad as joypad
use Rattle.memory.specs.World.{World, Fixed}
use Rattle.memory.specs.declared.Memory.{Memory}
use Rattle.mmu.proofs.Laws.{Stays, stays_refl, kept_stays, write_stays, transfer_stays}
use Rattle.mmu.specs.Access.{read_in, in_state}
use Rattle.mmu.specs.Write.{write_at, transferred}
use Rattle.numbers.specs.Numbers.{done}
use Rattle.refusals.specs.Answers.{changed, byte_given}
use Rattle.refusals.specs.Refusal.{or_else, byte_room, byte_owed, cycles_refused}
use Rattle.refusals.specs.Answers.{Done}
use Rattle.registers.proofs.Kept.{Kept, kept_refl, timer_kept, controller_kept, polled_kept}
use Rattle.registers.specs.State.{timer_of, with_timer, with_controller, polled_in}
use Rattle.registers.specs.Transfers.{block_copy}
use Rattle.rules.proofs.Tests.{cond_both}
use Rattle.timer.specs.Timer.{updated}
use Rattle.corners.specs.Rows.{Act, read, write, cycle, press, poll, block, call_of, Line, does, gives, shows, seen}
use Rattle.corners.proofs.Oam.{written, write_written}

abbrev changed_in : World → ℕ → Memory → Outcome
changed_in w n next = in_world w (performed_done (changed n w.state next))

unfoldable pub quick : Fixed → World → Act → Outcome
quick x w (read i) = outcome done (read_in x w i) w
quick x w (write i v) = unless (byte_room w.state.core.used (length w.log) i) w (outcome (byte_owed i) 0 (written x w i v))
quick x w (cycle n) = changed_in w (cycles_refused n) (with_timer w.state (updated (timer_of w.state) n))
quick x w (press b) =
    changed_in w (joypad.press_call w.state.core.joypad b).number (with_controller w.state (joypad.press_call w.state.core.joypad b).controller)
quick x w poll = outcome done 0 (in_state w (polled_in w.state))
quick x w block = outcome done 36 (transferred x (write_at x 1) (block_copy w.state) 0 w)

unfoldable pub quickly : Fixed → World → List Line → List (List ℕ)
quickly x w [] = []
quickly x w (does a ∷ ls) = let o = quick x w a in (o.number ∷ []) ∷ quickly x o.after ls
quickly x w (gives a v ∷ ls) = let o = quick x w a in (o.number ∷ o.value ∷ []) ∷ quickly x o.after ls
quickly x w (shows f l ∷ ls) = f w ∷ quickly x w ls

changed_kept : (n : ℕ) (m : Memory) {next : Memory} → Kept m next → Kept m (changed n m next).memory
unfolding changed
changed_kept n m k = cond_both (λ (d : Done). Kept m d.memory) (eqb n 0) k (kept_refl m)

module _ (x : Fixed) (w : World) (g : Good w) (right : fits w.state.core.cartridge x ≡ true) where
  same : (a : Act) → step x w (call_of a) ≡ quick x w a
  unfolding step state_step call_of quick byte_given changed unless or_else
  same (read i) = rw (read_number w g x, right)
  same (write i v) = rw (write_number w g x, right, write_written x w i v)
  same (cycle n) = rw (alone_open w g)
  same (press b) = rw (alone_open w g)
  same poll = rw (alone_open w g)
  same block = rw (write_number w g x, right)

  stays : (a : Act) → Stays w (quick x w a).after
  unfolding quick unless
  stays (read i) = stays_refl w g.holds
  stays (write i v) =
      cond_both (λ (o : Outcome). Stays w o.after) (eqb (byte_room w.state.core.used (length w.log) i) 0)
      (rw (← write_written x w i v) (write_stays x w g.holds 2 i v)) (stays_refl w g.holds)
  stays (cycle n) = kept_stays w g.holds _ (changed_kept (cycles_refused n) w.state (timer_kept w.state n))
  stays (press b) =
      let p = joypad.press_call w.state.core.joypad b in
      kept_stays w g.holds _ (changed_kept p.number w.state (controller_kept w.state p.controller))
  stays poll = kept_stays w g.holds _ (polled_kept w.state)
  stays block = transfer_stays x w g.holds 1 (block_copy w.state) 0

  good : (a : Act) → Good (quick x w a).after
  good a = stays_good w (quick x w a).after g (stays a)

  still_right : (a : Act) → fits (quick x w a).after.state.core.cartridge x ≡ true
  still_right a = rw (stays a).cartridge right

pub seen_quickly : (x : Fixed) (w : World) → Good w → fits w.state.core.cartridge x ≡ true → (ls : List Line) → seen x w ls ≡ quickly x w ls
unfolding seen quickly
seen_quickly x w g r [] = refl
seen_quickly x w g r (does a ∷ ls) =
    rw (same x w g r a) (ap (λ (s : List (List ℕ)). ((quick x w a).number ∷ []) ∷ s) (seen_quickly x (quick x w a).after (good x w g r a) (still_right x w g r a) ls))
seen_quickly x w g r (gives a v ∷ ls) =
    rw (same x w g r a)
    (ap (λ (s : List (List ℕ)). ((quick x w a).number ∷ (quick x w a).value ∷ []) ∷ s) (seen_quickly x (quick x w a).after (good x w g r a) (still_right x w g r a) ls))
seen_quickly x w g r (shows f l ∷ ls) = ap (λ (s : List (List ℕ)). f w ∷ s) (seen_quickly x w g r ls)
