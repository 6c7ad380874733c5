-- What a byte put on an image needs of it and of what is lent. Nothing here need be believed: the contracts of the entries cite specs/Entry.antt of crate
-- entry alone.
use Rattle.std.specs.Prelude.{true, List, [], ◌≡◌, ℕ, ◌-◌, length, set}
use Rattle.image.specs.Load.{core_from, load_call}
use Rattle.image.specs.Patches.{fields, mapping_put}
use Rattle.mbc.specs.declared.mbc.Mapper.{Mapper}
use Rattle.memory.specs.Region.{oam_start}
use Rattle.memory.specs.World.{world, with_mapper, with_used}
use Rattle.memory.specs.declared.Core.{Core}
use Rattle.memory.specs.declared.Memory.{Memory}
use Rattle.mmu.specs.Access.{Holds, save_put}
use Rattle.numbers.specs.Numbers.{done}
use Rattle.packing.specs.Packing.{Below}
use Rattle.savelog.specs.Log.{use_in_range}
use Rattle.put_bytes.specs.Left.{world_of}

-- an image that is taken, beside memories of the lengths that its state asks for
pub record Taken (i v w s l : List ℕ) : Type 0 where
  pub bytes : Below 256 i
  pub number : (load_call i).number ≡ done
  pub holds : Holds (world_of i v w s l)
  pub used : use_in_range (load_call i).state.core.used (length l) ≡ true

-- the state but its arrays, by the fields
abbrev pub core_in : List ℕ → Core
core_in i = core_from (fields i)

-- OAM is the first 256 bytes of an image
abbrev pub own_put : List ℕ → ℕ → ℕ → List ℕ
own_put i at v = set i (at - oam_start) v

-- a save write: the mapper and the log's use that the image then has, with the save and the log, are those of a save write by value (j, y, z are what is left)
pub record Saved (i s l : List ℕ) (k v : ℕ) (j y z : List ℕ) : Type 0 where
  pub mapper : Mapper
  pub used : ℕ
  pub image : j ≡ mapping_put i mapper used
  pub saved : (m : Memory) → m.core.cartridge ≡ (core_in i).cartridge → m.core.mapper ≡ (core_in i).mapper → m.core.used ≡ (core_in i).used
      → world (with_used (with_mapper m mapper) used) [] [] y z ≡ save_put (world m [] [] s l) k v
