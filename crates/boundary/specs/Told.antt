-- "Show that no second outcome fits" (document 01, "How much a contract must say"), of the calls that are lent nothing for writing: their contracts say what a
-- view of the answer is, and two answers of which a view says the same are the same. `answers_told` has this as its contract. The first five are those of the
-- calls by value, the others those of the calls on the image. (A contract of the cycles left to an overflow says besides whether TIMA counts.)
use Rattle.std.specs.Prelude.{◌≡◌, ℕ, Bool, Option, Result}
use Rattle.entry.specs.Entry as entry
use Rattle.entry.specs.Host.{numbers_shown}
use Rattle.interrupt.specs.declared.Interrupt.{Interrupt}
use Rattle.lcd.specs.declared.Lcd.{Lcd}
use Rattle.memory.specs.declared.Memory.{Memory}
use Rattle.numbers.specs.declared.Refusal.{Refusal}
use Rattle.refusals.specs.Answers.{done_of, byte_of, word_of, flag_of, waiting_of}

-- a view tells any two answers apart
abbrev pub Tells : {T V : Type 0} → (Result T Refusal → V) → Type 0
Tells {T} view = (r s : Result T Refusal) → view r ≡ view s → r ≡ s

pub record Told : Type 0 where
  pub done : (m : Memory) → Tells (done_of m)
  pub byte : Tells byte_of
  pub word : Tells word_of
  pub flag : Tells flag_of
  pub waiting : Tells waiting_of
  pub given : Tells entry.given_of
  pub flag_given : Tells entry.flag_given_of
  pub waiting_given : Tells entry.waiting_of
  pub numbers : Tells numbers_shown
