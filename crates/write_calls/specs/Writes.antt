-- A byte and a word written, each call whole: number, and what is left (document 01, "Numbers a call gives back", "The bus").
use Rattle.std.specs.Prelude.{◌≡◌, ℕ, length, Result, Ok, Err}
use Rattle.bus.specs.Calls.{Outcome, outcome, unless, Buffers, holding}
use Rattle.memory.specs.World.{World, Fixed}
use Rattle.mmu.specs.Write.{write_at, word_at}
use Rattle.numbers.specs.One.{OnlyOne}
use Rattle.numbers.specs.Refusal.{owed_number, refusal_number}
use Rattle.numbers.specs.declared.Refusal.{Refusal}
use Rattle.refusals.specs.Refusal.{or_else, refused_write, byte_room, word_room, byte_owed, word_owed}
use Rattle.write_calls.specs.declared.Wrote.{Wrote}

-- 3, 4, then 2

abbrev pub write_byte_call : Fixed → World → ℕ → ℕ → Outcome
write_byte_call x w i v =
    unless (or_else (refused_write x w) (byte_room w.state.core.used (length w.log) i)) w
    (outcome (byte_owed i) 0 (write_at x 2 w i v))

abbrev pub write_word_call : Fixed → World → ℕ → ℕ → Outcome
write_word_call x w i v =
    unless (or_else (refused_write x w) (word_room w.state.core.used (length w.log) i)) w
    (outcome (word_owed i) 0 (word_at x w i v))

-- Document 01's number for each case of the answer, with what is left: a refused call leaves the state as it was
abbrev pub left_by : World → Result Wrote Refusal → Buffers → Outcome
left_by w (Ok r) left = outcome (owed_number r.owed) 0 (holding r.memory left)
left_by w (Err e) left = outcome (refusal_number e) 0 (holding w.state left)

-- What is promised of each: of its result, and of the memories as it leaves them

abbrev pub WritesByte : Fixed → World → ℕ → ℕ → Result Wrote Refusal → Buffers → Type 0
WritesByte x w i v r left = left_by w r left ≡ write_byte_call x w i v

abbrev pub WritesWord : Fixed → World → ℕ → ℕ → Result Wrote Refusal → Buffers → Type 0
WritesWord x w i v r left = left_by w r left ≡ write_word_call x w i v

-- no second outcome fits
pub record OneWritten : Type 0 where
  pub bytes : (x : Fixed) (w : World) (i v : ℕ) → OnlyOne (WritesByte x w i v)
  pub words : (x : Fixed) (w : World) (i v : ℕ) → OnlyOne (WritesWord x w i v)
