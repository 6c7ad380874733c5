-- The cycles that are left until TIMA overflows (document 01, "Timer and buttons"): TIMA has 256 - TIMA steps to make, each of a full period, and of these
-- cycles tima_cycles have passed. specs/Promises.antt has what this says of an update.
use Rattle.std.specs.Prelude.{Option, unwrap_or, ℕ, ◌-◌, ◌*◌, cond}
use Rattle.timer.specs.PanDocs.{period, counting}
use Rattle.timer.specs.declared.Timer.{Timer}

-- where bit 2 of TAC is clear there is no such number
abbrev pub never : ℕ
never = 0xFFFFFFFF

-- the number that stands for an answer
abbrev pub left_given : Option ℕ → ℕ
left_given o = unwrap_or o never

-- 0 where more have passed: an update by no cycles makes the steps then
unfoldable pub cycles_left : ℕ → ℕ → ℕ → ℕ
cycles_left tac tima rest = cond (counting tac) ((256 - tima) * period tac - rest) never

abbrev pub left_of : Timer → ℕ
left_of t = cycles_left t.tac t.tima t.tima_cycles
