-- The transfers that a host starts, each call whole: number, answer, and what is left (document 01, "Numbers a call gives back", "The bus").
use Rattle.std.specs.Prelude.{◌≡◌, ℕ, Result, Ok, Err}
use Rattle.bus.specs.Calls.{Outcome, outcome, unless, Buffers, holding}
use Rattle.memory.specs.World.{World, Fixed}
use Rattle.mmu.specs.Write.{write_at, transferred}
use Rattle.numbers.specs.Numbers.{done}
use Rattle.numbers.specs.One.{OnlyOne}
use Rattle.numbers.specs.Refusal.{refusal_number}
use Rattle.numbers.specs.declared.Refusal.{Refusal}
use Rattle.memory.specs.declared.Memory.{Memory}
use Rattle.refusals.specs.Refusal.{refused_write}
use Rattle.copies.specs.Copies.{oam_copy}
use Rattle.registers.specs.Transfers.{block_copy}
use Rattle.transfer_calls.specs.declared.Moved.{Moved}

-- 3, then 4: a transfer appends nothing
abbrev pub do_dma_transfer_call : Fixed → World → ℕ → Outcome
do_dma_transfer_call x w page =
    unless (refused_write x w) w (outcome done 0 (transferred x (write_at x 1) (oam_copy page) 0 w))

-- the answer 36, enabled or not
abbrev pub do_hdma_call : Fixed → World → Outcome
do_hdma_call x w = unless (refused_write x w) w (outcome done 36 (transferred x (write_at x 1) (block_copy w.state) 0 w))

-- Document 01's number and answer for each case, with what is left: a refused call gives 0 and leaves the state as it was

abbrev pub left_by : World → Result Memory Refusal → Buffers → Outcome
left_by w (Ok m) left = outcome done 0 (holding m left)
left_by w (Err e) left = outcome (refusal_number e) 0 (holding w.state left)

abbrev pub moved_by : World → Result Moved Refusal → Buffers → Outcome
moved_by w (Ok r) left = outcome done r.cycles (holding r.memory left)
moved_by w (Err e) left = outcome (refusal_number e) 0 (holding w.state left)

-- What is promised of each: of its result, and of the memories as it leaves them

abbrev pub Transfers : Fixed → World → ℕ → Result Memory Refusal → Buffers → Type 0
Transfers x w page r left = left_by w r left ≡ do_dma_transfer_call x w page

abbrev pub Moves : Fixed → World → Result Moved Refusal → Buffers → Type 0
Moves x w r left = moved_by w r left ≡ do_hdma_call x w

-- no second outcome fits
pub record OneMoved : Type 0 where
  pub pages : (x : Fixed) (w : World) (page : ℕ) → OnlyOne (Transfers x w page)
  pub blocks : (x : Fixed) (w : World) → OnlyOne (Moves x w)
