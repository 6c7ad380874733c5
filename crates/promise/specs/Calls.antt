-- The byte writes that a call asks for, told by the call alone (document 01, "The part we take" and "The bus").
use Rattle.std.specs.Prelude.{Bool, true, false, ◌||◌, List, [], ◌∷◌, ℕ, ◌/◌, ◌%◌}
use Rattle.promise.specs.Bus.{Call, next_index, in_save, in_sound}
use Rattle.promise.specs.Bus.call as call

-- a byte write: where, and what
pub record ByteWrite : Type 0 where
  pub index : ℕ
  pub value : ℕ

abbrev pub byte : ℕ → ℕ → ByteWrite
byte i v = record { index = i; value = v }

-- the byte writes of a call: "a word write is two", low byte first; index + 1 wraps
unfoldable pub writes_of : Call → List ByteWrite
writes_of (call.ReadByte i) = []
writes_of (call.ReadWord i) = []
writes_of (call.ReadCgbLcdRam i bank) = []
writes_of (call.WriteByte i v) = byte i v ∷ []
writes_of (call.WriteWord i v) = byte i (v % 256) ∷ byte (next_index i) (v / 256) ∷ []
writes_of (call.DoDmaTransfer page) = []
writes_of call.DoHdma = []
writes_of (call.State c) = []

-- Of byte writes: there are some; one is in A000..BFFF; one is in the sound window

abbrev pub some : List ByteWrite → Bool
some [] = false
some (b ∷ bs) = true

unfoldable pub reaches : List ByteWrite → Bool
reaches [] = false
reaches (b ∷ bs) = in_save b.index || reaches bs

unfoldable pub sounds : List ByteWrite → Bool
sounds [] = false
sounds (b ∷ bs) = in_sound b.index || sounds bs
