-- The timer's update (document 01, "Timer and buttons"), its state range ("Numbers a call gives back") and the call with its refusals.
use Rattle.std.specs.Prelude.{Result, ◌≡◌, ℕ, ◌+◌, ◌*◌, ◌/◌, ◌%◌, Bool, cond, nat_le, nat_lt}
use Rattle.std.specs.Result.{result_unwrap_or}
use Rattle.numbers.specs.Numbers.{done, out_of_range, too_many_cycles}
use Rattle.numbers.specs.Refusal.{number_given}
use Rattle.numbers.specs.declared.Refusal.{Refusal}
use Rattle.timer.specs.PanDocs.{period, counting, steps}
use Rattle.timer.specs.declared.Divided.{Divided}
use Rattle.timer.specs.declared.Timer.{Timer}

-- 256 x DIV + div_cycles
abbrev pub clock : Timer → ℕ
clock t = 256 * t.div + t.div_cycles

-- DIV and div_cycles of a clock at k
abbrev pub divided_of : ℕ → Divided
divided_of k = record { div = k / 256; cycles = k % 256 }

-- the timer with its clock at k
abbrev pub with_clock : Timer → ℕ → Timer
with_clock t k =
    record { div = k / 256; tima = t.tima; tma = t.tma; tac = t.tac; flags = t.flags; div_cycles = k % 256; tima_cycles = t.tima_cycles }

-- the timer with its tima_cycles at k
abbrev pub with_rest : Timer → ℕ → Timer
with_rest t k =
    record { div = t.div; tima = t.tima; tma = t.tma; tac = t.tac; flags = t.flags; div_cycles = t.div_cycles; tima_cycles = k }

-- for an update by c the clock rises by c modulo 65,536
unfoldable pub divided : Timer → ℕ → Timer
divided t c = with_clock t ((clock t + c) % 65536)

-- if bit 2 of TAC is set, tima_cycles gains c, and TIMA steps once per full period
unfoldable pub counted : Timer → ℕ → Timer
counted t c =
    cond (counting t.tac)
    (with_rest (steps ((t.tima_cycles + c) / period t.tac) t) ((t.tima_cycles + c) % period t.tac))
    t

-- both, for one update
abbrev pub updated : Timer → ℕ → Timer
updated t c = counted (divided t c) c

-- tima_cycles is 0..1023 (div_cycles is a byte)
abbrev pub timer_in_range : Timer → Bool
timer_in_range t = nat_lt t.tima_cycles 1024

-- the number, and the timer after the call: a refusal leaves it as it was
pub record Updated : Type 0 where
  pub number : ℕ
  pub timer : Timer

abbrev pub updated_of : Timer → Result Timer Refusal → Updated
updated_of t r = record { number = number_given r; timer = result_unwrap_or r t }

-- what a call gives back
abbrev pub gives : ℕ → Timer → Updated
gives number t = record { number = number; timer = t }

-- a state out of range is refused by 3, then more than 65,536 cycles by 5; a refused call changes nothing
unfoldable pub update_call : Timer → ℕ → Updated
update_call t c =
    cond (timer_in_range t) (cond (nat_le c 65536) (gives done (updated t c)) (gives too_many_cycles t))
    (gives out_of_range t)

-- what is promised of an update of a timer that is lent: of its number, and of the timer as it leaves that
abbrev pub Updates : Timer → ℕ → ℕ → Timer → Type 0
Updates t c n left = gives n left ≡ update_call t c
