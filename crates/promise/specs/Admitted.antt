-- Which byte writes are let in, and as what: from the mapper's rules (crate mbc) and the writes alone. No memory of the bus is asked.
use Rattle.std.specs.Prelude.{cond, List, [], ◌∷◌, ◌++◌, ℕ}
use Rattle.mbc.specs.Mbc.{mapped, after, answer}
use Rattle.mbc.specs.declared.cartridge.Cartridge.{Cartridge}
use Rattle.mbc.specs.declared.mbc.Mapper.{Mapper}
use Rattle.mbc.specs.declared.mbc.Stored.{Stored}
use Rattle.std.specs.Prelude.{Option, Some, None}
use Rattle.savelog.specs.Log.{stored, record_bytes}
use Rattle.savelog.specs.declared.Form.TheVariants.{Four}
use Rattle.savelog.specs.declared.Rec.{Rec}
use Rattle.promise.specs.Bus.{in_save, refused}
use Rattle.promise.specs.Calls.{ByteWrite}

-- "that were not refused": the byte writes of a call, by its number
unfoldable pub granted : ℕ → List ByteWrite → List ByteWrite
granted n bs = cond (refused n) [] bs

-- "after the earlier writes": a byte write in 0000..7FFF or A000..BFFF, where the bus asks the mapper, leaves the mapper that its rules give; no
-- other changes it. (One in A000..BFFF that the log has no room for is refused by 2, so it is not among these.)
unfoldable pub mapper_after : Cartridge → Mapper → ByteWrite → Mapper
mapper_after c m b = cond (mapped b.index) (after c m b.index b.value) m

unfoldable pub mappers_after : Cartridge → Mapper → List ByteWrite → Mapper
mappers_after c m [] = m
mappers_after c m (b ∷ bs) = mappers_after c (mapper_after c m b) bs

-- "byte writes to A000..BFFF that the mapper's rules let in, each at the address and with the value that those rules give"
abbrev pub answered : Option Stored → List Rec
answered (Some s) = stored s.at s.value ∷ []
answered None = []

unfoldable pub let_in : Cartridge → Mapper → ByteWrite → List Rec
let_in c m b = cond (in_save b.index) (answered (answer c m b.index b.value)) []

unfoldable pub let_in_all : Cartridge → Mapper → List ByteWrite → List Rec
let_in_all c m [] = []
let_in_all c m (b ∷ bs) = let_in c m b ++ let_in_all c (mapper_after c m b) bs

-- their records, byte by byte
unfoldable pub records_of : List Rec → List ℕ
records_of [] = []
records_of (r ∷ rs) = record_bytes Four r.address r.value ++ records_of rs
