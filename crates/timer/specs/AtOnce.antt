-- All steps of TIMA in an update at once, from quotient and remainder (document 02, wish 4): how the code goes. Nothing here need be believed: the contracts of
-- the update cite the steps of PanDocs.antt, and specs/Promises.antt has that these are the same (`AtOnce`).
use Rattle.std.specs.Prelude.{ℕ, ◌+◌, ◌-◌, ◌/◌, ◌%◌, cond, nat_lt}
use Rattle.interrupt.specs.Flags.{requested}
use Rattle.interrupt.specs.declared.Interrupt.TheVariants as Interrupt
use Rattle.timer.specs.PanDocs.{period, counting, with_tima}
use Rattle.timer.specs.declared.Periods.{Periods}
use Rattle.timer.specs.declared.Stepped.{Stepped}
use Rattle.timer.specs.declared.Timer.{Timer}

-- how many periods are full after c more cycles, and the cycles since the last of them; while TIMA does not count, none, and tima_cycles as it was
unfoldable pub periods_in : ℕ → ℕ → ℕ → Periods
periods_in tac rest c =
    cond (counting tac) (record { full = (rest + c) / period tac; rest = (rest + c) % period tac })
    (record { full = 0; rest = rest })

-- TIMA and FF0F after n steps: TIMA overflows at the step 256 - TIMA, and from there on every 256 - TMA steps
unfoldable pub stepped : ℕ → ℕ → ℕ → ℕ → Stepped
stepped tima tma flags n =
    cond (nat_lt n (256 - tima)) (record { tima = tima + n; flags = flags })
    (record { tima = tma + (n - (256 - tima)) % (256 - tma); flags = requested flags Interrupt.Timer })

abbrev pub with_stepped : Timer → Stepped → Timer
with_stepped t s = with_tima t s.tima s.flags

-- a timer after n steps
abbrev pub at_once : ℕ → Timer → Timer
at_once n t = with_stepped t (stepped t.tima t.tma t.flags n)
