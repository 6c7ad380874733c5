-- What the timer asks for: cycles that are not refused, and `tima_cycles` of a state in range. So what the bus does not refuse, the timer's own call does not.
use mathlib.Core.Bool.{Bool, true, false, cond}
use mathlib.Core.Path.{◌≡◌, refl, sym}
use Prim.Native.Nat.{ℕ, ◌<◌, ◌≤◌}
use native.Mathlib.Omega.{arith}
use lib.Dec.{leb}
use borrow.Author.Tests.{leb-true, lt-ltb}
use Rattle.memory.specs.Ranges.{state_in_range}
use Rattle.memory.proofs.Laws.{range_clock}
use Rattle.memory.specs.declared.Memory.{Memory}
use Rattle.rules.proofs.Tests.{passes}
use Rattle.input_calls.specs.Input.{update_timer_call}
use Rattle.numbers.specs.Refusal.{refusal_number}
use Rattle.numbers.specs.declared.Refusal.{Refusal}
use Rattle.refusals.proofs.Answers.{refuses, where_done, both_pass, state_passes, range_state}
use Rattle.refusals.specs.Answers.{changed}
use Rattle.refusals.specs.Refusal.{or_else, refused_state, cycles_refused}
use Rattle.registers.specs.State.{timer_of, with_timer}
use Rattle.timer.proofs.Laws.{call_done}
use Rattle.timer.specs.Timer.{Updated, gives, update_call, updated}
use Rattle.timer.specs.declared.Timer.{Timer}

pub cycles_pass : (c : ℕ) → cycles_refused c ≡ 0 → c ≤ 65536
unfolding cycles_refused
cycles_pass c h = leb-true c 65536 (passes (leb c 65536) 5 (omega arith) h)

-- `tima_cycles` of a state in range
pub tima_below : (m : Memory) → state_in_range m ≡ true → m.core.clock.tima < 1024
tima_below m h = omega (arith, range_clock m h)

module _ (m : Memory) (c : ℕ) where
  pub timer_taken : changed (or_else (refused_state m) (cycles_refused c)) m (with_timer m (update_call (timer_of m) c).timer) ≡ update_timer_call m c
  timer_taken =
      where_done (or_else (refused_state m) (cycles_refused c)) m (with_timer m (update_call (timer_of m) c).timer) (with_timer m (updated (timer_of m) c))
      (λ h. let e = both_pass _ _ h in
      rw (call_done (timer_of m) c (tima_below m (range_state m _ (state_passes m _ e.0))) (cycles_pass c e.1)))

  -- where the state is in range, the timer's own number is that of the cycles
  module _ (h : 0 ≡ refused_state m) where
    timer_number : (update_call (timer_of m) c).number ≡ cycles_refused c
    unfolding update_call cycles_refused
    timer_number =
        rw (lt-ltb m.core.clock.tima 1024 (tima_below m (range_state m _ (state_passes m _ (sym h)))))
        (by_limit _ _ (leb c 65536))
      where
        by_limit : (x y : Timer) (b : Bool) → (cond b (gives 0 x) (gives 5 y)).number ≡ cond b 0 5
        by_limit x y true = refl
        by_limit x y false = refl

    pub timer_done : (u : Updated) → u ≡ update_call (timer_of m) c → changed u.number m (with_timer m u.timer) ≡ update_timer_call m c
    unfolding or_else
    timer_done u e = rw (e, timer_number, ← h) (rw (← h) at timer_taken)

    pub timer_refused : (e : Refusal) (t : Timer) → record { number = refusal_number e; timer = t } ≡ update_call (timer_of m) c
        → record { number = refusal_number e; memory = m } ≡ update_timer_call m c
    unfolding changed
    timer_refused e t i = rw (← timer_done _ i, refuses e)
