-- What a call answers, done and refused (document 01, "Numbers a call gives back": a refused read gives 0, a refused call changes nothing).
use Rattle.std.specs.Prelude.{ℕ, Bool, false, cond, ◌==◌, Option, None, Result}
use Rattle.std.specs.Result.{result_unwrap_or}
use Rattle.interrupt.specs.declared.Interrupt.{Interrupt}
use Rattle.memory.specs.declared.Memory.{Memory}
use Rattle.numbers.specs.Numbers.{done}
use Rattle.numbers.specs.Refusal.{number_given}
use Rattle.numbers.specs.declared.Refusal.{Refusal}

-- Document 01's number and value for each case of an answer

-- the number, and the state after the call
pub record Done : Type 0 where
  pub number : ℕ
  pub memory : Memory

-- the number, and the byte
pub record Byte : Type 0 where
  pub number : ℕ
  pub value : ℕ

-- the number, and the word
pub record Word : Type 0 where
  pub number : ℕ
  pub value : ℕ

-- the number, and the answer to a question
pub record Flag : Type 0 where
  pub number : ℕ
  pub value : Bool

-- the number, and the interrupt that is served first
pub record Waiting : Type 0 where
  pub number : ℕ
  pub pending : Option Interrupt

-- the state of a call that is refused is the one that it was called with
abbrev pub done_of : Memory → Result Memory Refusal → Done
done_of m r = record { number = number_given r; memory = result_unwrap_or r m }

abbrev pub byte_of : Result ℕ Refusal → Byte
byte_of r = record { number = number_given r; value = result_unwrap_or r 0 }

abbrev pub word_of : Result ℕ Refusal → Word
word_of r = record { number = number_given r; value = result_unwrap_or r 0 }

abbrev pub flag_of : Result Bool Refusal → Flag
flag_of r = record { number = number_given r; value = result_unwrap_or r false }

abbrev pub waiting_of : Result (Option Interrupt) Refusal → Waiting
waiting_of r = record { number = number_given r; pending = result_unwrap_or r None }

-- a refused call changes nothing; another gives 0 and the next state
unfoldable pub changed : ℕ → Memory → Memory → Done
changed n m next = cond (n == done) (record { number = done; memory = next }) (record { number = n; memory = m })

-- a refused read gives 0
unfoldable pub byte_given : ℕ → ℕ → Byte
byte_given n v = cond (n == done) (record { number = done; value = v }) (record { number = n; value = 0 })

unfoldable pub word_given : ℕ → ℕ → Word
word_given n v = cond (n == done) (record { number = done; value = v }) (record { number = n; value = 0 })

unfoldable pub flag_given : ℕ → Bool → Flag
flag_given n b = cond (n == done) (record { number = done; value = b }) (record { number = n; value = false })

unfoldable pub waiting_given : ℕ → Option Interrupt → Waiting
waiting_given n p = cond (n == done) (record { number = done; pending = p }) (record { number = n; pending = None })
