-- From Pan Docs, "Timer and Divider Registers": while bit 2 of TAC is set, TIMA counts at the rate of TAC's bits 1..0;
-- when it passes FF it becomes TMA, and the timer interrupt is requested.
use Rattle.std.specs.Prelude.{ℕ, zero, suc, ◌+◌, ◌%◌, Bool, cond, ◌==◌, nat_lt}
use Rattle.bit_utils.specs.Bits.{is_set}
use Rattle.interrupt.specs.Flags.{requested}
use Rattle.interrupt.specs.declared.Interrupt.TheVariants as Interrupt
use Rattle.timer.specs.declared.Timer.{Timer}

-- cycles for one step of TIMA
unfoldable pub period : ℕ → ℕ
period tac = cond (tac % 4 == 0) 1024 (cond (tac % 4 == 1) 16 (cond (tac % 4 == 2) 64 256))

-- TIMA counts
abbrev pub counting : ℕ → Bool
counting tac = is_set tac 2

abbrev pub with_tima : Timer → ℕ → ℕ → Timer
with_tima t tima flags =
    record { div = t.div; tima = tima; tma = t.tma; tac = t.tac; flags = flags; div_cycles = t.div_cycles; tima_cycles = t.tima_cycles }

-- one step of TIMA
unfoldable pub step_tima : Timer → Timer
step_tima t =
    cond (nat_lt t.tima 255) (with_tima t (t.tima + 1) t.flags)
    (with_tima t t.tma (requested t.flags Interrupt.Timer))

-- n steps of TIMA
unfoldable pub steps : ℕ → Timer → Timer
steps zero t = t
steps (suc n) t = step_tima (steps n t)
