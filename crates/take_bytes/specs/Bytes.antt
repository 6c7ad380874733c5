-- What a read that is apart needs of an image and of what is lent. Nothing here need be believed: the contracts of the entries cite specs/Entry.antt alone.
use Rattle.std.specs.Prelude.{◌≡◌, List, ℕ, ◌+◌, ◌*◌, ◌≤◌, length}
use Rattle.image.specs.Load.{load_call, banks_of}
use Rattle.image.specs.Patches.{fields}
use Rattle.mbc.specs.Mbc.{rom_len, ram_len}
use Rattle.memory.specs.Ranges.{sound_len}
use Rattle.memory.specs.declared.region.Region.{Region}
use Rattle.memory.specs.declared.region.Region.TheVariants.{Rom, Vram, Save, Wram, Oam, Page}
use Rattle.numbers.specs.Numbers.{done}

-- an image that is taken, with the save's length and the sound window's
pub record Lent (i s x : List ℕ) : Type 0 where
  pub number : (load_call i).number ≡ done
  pub save : length s ≡ ram_len (load_call i).state.core.cartridge (load_call i).state.core.mapper
  pub sound : sound_len ≤ length x

-- an image that is taken, with what lengths the banks that it selects ask for
pub record Reached (i m v w : List ℕ) : Type 0 where
  pub number : (load_call i).number ≡ done
  pub rom : length m ≡ rom_len (load_call i).state.core.cartridge
  pub vram : (banks_of (fields i)).vram * 0x2000 + 0x2000 ≤ length v
  pub wram : (0x1000 ≤ length w) × ((banks_of (fields i)).wram * 0x1000 + 0x1000 ≤ length w)

-- neither ROM nor video nor work memory
abbrev pub Others : Region → Type 0
Others Rom = ⊥
Others Vram = ⊥
Others Save = Unit {0}
Others Wram = ⊥
Others Oam = Unit {0}
Others Page = Unit {0}

-- ROM, video or work memory
abbrev pub Near : Region → Type 0
Near Rom = Unit {0}
Near Vram = Unit {0}
Near Save = ⊥
Near Wram = Unit {0}
Near Oam = ⊥
Near Page = ⊥
