-- Byte write and transfer, which call each other (document 01, "What must change shape": a depth that falls from 2).
use Rattle.std.specs.Prelude.{ℕ, zero, suc, ◌+◌, ◌/◌, ◌%◌, Bool, false, cond, ◌||◌, ◌==◌}
use Rattle.memory.specs.World.{World, Fixed}
use Rattle.registers.specs.Transfers.{copy_of, finished}
use Rattle.copies.specs.declared.Copy.{Copy}
use Rattle.mmu.specs.Access.{read_in, put, in_state}

-- n bytes from `source` on, each read and then written from `destination` on by the write f: bytes copy in rising order, the source wraps
unfoldable pub copy_by : Fixed → (World → ℕ → ℕ → World) → ℕ → ℕ → ℕ → World → World
copy_by x f source destination zero w = w
copy_by x f source destination (suc n) w =
    f (copy_by x f source destination n w) (destination + n)
    (read_in x (copy_by x f source destination n w) ((source + n) % 65536))

-- a transfer: its bytes, and then its registers
abbrev pub transferred : Fixed → (World → ℕ → ℕ → World) → Copy → ℕ → World → World
transferred x f c v w =
    in_state (copy_by x f c.source c.destination c.count w)
    (finished (copy_by x f c.source c.destination c.count w).state c.finish v)

-- whether a byte write starts a transfer: of FF46 or FF55, above depth 0
unfoldable pub starting : ℕ → ℕ → Bool
starting depth index = cond (depth == 0) false (index == 0xFF46 || index == 0xFF55)

-- a byte write: the byte, and then the transfer that it starts from the state before it
unfoldable pub write_at : Fixed → ℕ → World → ℕ → ℕ → World
write_at x zero w i v = put w i v
write_at x (suc d) w i v = transferred x (write_at x d) (copy_of w.state i v) v (put w i v)

-- a word write: low byte first; index + 1 wraps
unfoldable pub word_at : Fixed → World → ℕ → ℕ → World
word_at x w i v = write_at x 2 (write_at x 2 w i (v % 256)) ((i + 1) % 65536) (v / 256)
