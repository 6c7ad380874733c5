-- The transfers of src/: what they need of an image and of what is lent, what is read, what is put. Nothing here need be believed: the contracts of the
-- entries cite specs/Entry.antt of crate entry alone.
use Rattle.std.specs.Prelude.{◌≡◌, ℕ, ◌+◌, ◌%◌, ◌<◌, ◌≤◌, Bool, true, List, [], length, slice_index, slice_set}
use Rattle.hdma.specs.declared.Ended.{Ended}
use Rattle.hdma.specs.declared.Hdma.{Hdma}
use Rattle.hdma.specs.declared.Written.{Written}
use Rattle.image.specs.Load.{load_call}
use Rattle.image.specs.Patches.{put, hdma_fields}
use Rattle.memory.specs.Region.{vram_start, save_start}
use Rattle.memory.specs.World.{Fixed}
use Rattle.memory.specs.declared.Core.{Core}
use Rattle.mmu.specs.Access.{Ready, read_byte}
use Rattle.mmu.specs.Write.{copy_by, transferred, write_at}
use Rattle.numbers.specs.Numbers.{done}
use Rattle.packing.specs.Packing.{Below}
use Rattle.copies.specs.declared.Copy.{Copy}
use Rattle.put_bytes.specs.Left.{left, world_of, left_by}

-- an image that is taken, its fields, and memories of the lengths that they ask for
pub record Lent (x : Fixed) (i : List ℕ) (c : Core) (v w s : List ℕ) : Type 0 where
  pub bytes : Below 256 i
  pub number : (load_call i).number ≡ done
  pub core : c ≡ (load_call i).state.core
  pub ready : Ready x (world_of i v w s [])

-- with the fields that its bytes hold
abbrev pub Own : Fixed → List ℕ → List ℕ → List ℕ → List ℕ → Type 0
Own x i v w s = Lent x i (load_call i).state.core v w s

-- bytes that lie within 256 from a multiple of 256: these are in one region, and there in a row
abbrev pub Row : ℕ → ℕ → Type 0
Row source n = source % 256 + n ≤ 256

-- the bytes of a list are those from `source` on
abbrev pub Read : Fixed → List ℕ → List ℕ → List ℕ → List ℕ → ℕ → List ℕ → Type 0
Read x i v w s source out = (k : ℕ) → k < length out → slice_index out k ≡ read_byte x (load_call i).state v w s (source + k)

-- blocks of 16 that land in video memory, n bytes
abbrev pub Lands : ℕ → ℕ → Type 0
Lands destination n = (destination % 16 ≡ 0) × (vram_start ≤ destination) × (destination + n ≤ save_start)

-- video memory after n bytes are copied; the rest of the world stays, whatever the log
abbrev pub Copied : Fixed → List ℕ → List ℕ → List ℕ → List ℕ → ℕ → ℕ → ℕ → List ℕ → Type 0
Copied x i v w s source destination n v' =
    (l : List ℕ) → world_of i v' w s l ≡ copy_by x (write_at x 1) source destination n (world_of i v w s l)

-- the image and video memory after a transfer; of a byte write that started it, `value` is the byte
abbrev pub Moved : Fixed → List ℕ → List ℕ → List ℕ → List ℕ → Copy → ℕ → List ℕ → List ℕ → Type 0
Moved x i v w s c value j v' =
    (l : List ℕ) → left done 0 j v' w s l ≡ left_by (transferred x (write_at x 1) c value (world_of i v w s l))

-- FF51..FF55 and the hidden addresses after a transfer, in the image
unfoldable pub ended_put : List ℕ → Ended → List ℕ
ended_put i e =
    put (hdma_fields e.hdma)
    (slice_set (slice_set (slice_set (slice_set (slice_set i 0x151 e.r51) 0x152 e.r52) 0x153 e.r53) 0x154 e.r54) 0x155 e.r55)

-- and after a byte write that starts one
abbrev pub Wrote : Fixed → List ℕ → List ℕ → List ℕ → List ℕ → ℕ → ℕ → List ℕ → List ℕ → Type 0
Wrote x i v w s index value j v' = (l : List ℕ) → left done 0 j v' w s l ≡ left_by (write_at x 2 (world_of i v w s l) index value)

-- a write of FF55 that switches HDMA keeps its addresses, in colour
pub record Kept (b : Bool) (h : Hdma) (a : Written) : Type 0 where
  pub colour : b ≡ true
  pub source : a.hdma.source ≡ h.source
  pub destination : a.hdma.destination ≡ h.destination
  pub byte : a.byte < 256
