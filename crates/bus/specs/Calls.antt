-- What a call leaves, and the calls that read what is lent, each whole: number and value (document 01, "Numbers a call gives back", "The bus").
use Rattle.std.specs.Prelude.{cond, List, ℕ, eqb, length, get_or}
use Rattle.memory.specs.World.{World, world, Fixed}
use Rattle.memory.specs.declared.Memory.{Memory}
use Rattle.mmu.specs.Access.{read_in, read_word}
use Rattle.mmu.specs.PanDocs.{vram_at}
use Rattle.numbers.specs.Numbers.{done}
use Rattle.refusals.specs.Answers.{Byte, Word, byte_given, word_given}
use Rattle.refusals.specs.Refusal.{or_else, refused_state, refused_read, vram_length_refused, vram_refused}

-- the number of a call, the value that it gives, and what it leaves
pub record Outcome : Type 0 where
  pub number : ℕ
  pub value : ℕ
  pub after : World

abbrev pub outcome : ℕ → ℕ → World → Outcome
outcome n v w = record { number = n; value = v; after = w }

-- the memories that a call may write, and the world that they make with a state
pub record Buffers : Type 0 where
  pub vram : List ℕ
  pub wram : List ℕ
  pub save : List ℕ
  pub log : List ℕ

abbrev pub buffers : List ℕ → List ℕ → List ℕ → List ℕ → Buffers
buffers v w s l = record { vram = v; wram = w; save = s; log = l }

abbrev pub holding : Memory → Buffers → World
holding m b = world m b.vram b.wram b.save b.log

-- a refused call gives 0 and leaves the world as it was
unfoldable pub unless : ℕ → World → Outcome → Outcome
unless n w o = cond (eqb n done) o (outcome n 0 w)

-- Calls that read what is lent: 3, then 4

abbrev pub read_byte_call : Fixed → World → ℕ → Byte
read_byte_call x w i = byte_given (refused_read x w) (read_in x w i)

-- low byte first
abbrev pub read_word_call : Fixed → World → ℕ → Word
read_word_call x w i = word_given (refused_read x w) (read_word x w.state w.vram w.wram w.save i)

-- video memory alone is lent: 3, 4, 7
abbrev pub read_cgb_lcd_ram_call : World → ℕ → ℕ → Byte
read_cgb_lcd_ram_call w i bank =
    byte_given
    (or_else (refused_state w.state) (or_else (vram_length_refused w.state.core.banks.colour (length w.vram)) (vram_refused w.state.core.banks.colour i bank)))
    (get_or w.vram (vram_at bank i) 0)
