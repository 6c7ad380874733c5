-- Pan Docs, "Timer and Divider Registers".
use Rattle.std.specs.Prelude.{[], ◌∷◌, ◌≡◌, ℕ, ◌+◌, ◌/◌, ◌%◌, ◌<◌, eqb, length, get_or}
use Rattle.memory.specs.declared.Memory.{Memory}
use Rattle.registers.specs.Page.{write_register}
use Rattle.registers.specs.State.{loaded}
use Rattle.timer.specs.PanDocs.{period, counting, step_tima}
use Rattle.timer.specs.Timer.{divided}
use Rattle.timer.specs.declared.Timer.{Timer}
use Rattle.pan_docs.specs.Bits.{bit, low}

pub record TimerBits : Type 0 where
  -- "bits 1..0 give one step in 1024, 16, 64, 256 cycles"
  pub rate : (tac : ℕ) → period tac ≡ get_or (1024 ∷ 16 ∷ 64 ∷ 256 ∷ []) (low 2 tac) 0
  -- "while TAC's bit 2 is set"
  pub counts : (tac : ℕ) → counting tac ≡ eqb (bit tac 2) 1
  -- "FF04 DIV counts at one step in 256 cycles"
  pub div : (t : Timer) (cycles : ℕ) → (divided t cycles).div ≡ (t.div + (t.div_cycles + cycles) / 256) % 256
  -- "a write of any value sets it to 00". Departs: the cycles behind it stay. (The page has 256 bytes, as its type says.)
  pub reset : (m : Memory) (v : ℕ) → length m.page ≡ 256 → loaded (write_register m 0x04 v) 0x04 ≡ 0x00
  -- "When TIMA passes FF it becomes FF06 TMA and the timer interrupt is requested": bit 2 of FF0F
  pub steps : (t : Timer) → t.tima < 0xFF → ((step_tima t).tima ≡ t.tima + 1) × ((step_tima t).flags ≡ t.flags)
  pub passes : (t : Timer) → t.tima ≡ 0xFF → ((step_tima t).tima ≡ t.tma) × (bit (step_tima t).flags 2 ≡ 1)
