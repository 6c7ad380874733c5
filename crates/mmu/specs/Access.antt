-- A byte read, and a byte write without the copying that it may start, by the region of the index (document 01, "The bus" and
-- "Save log and state image").
use Rattle.std.specs.Prelude.{◌≡◌, ℕ, ◌+◌, ◌-◌, ◌*◌, ◌%◌, ◌<◌, ◌≤◌, true, cond, Option, Some, None, List, length, slice_index, slice_set}
use Rattle.mbc.specs.Mbc.{in_range, rom_len, ram_len, read_at, after, answer}
use Rattle.mbc.specs.declared.mbc.Stored.{Stored}
use Rattle.memory.specs.Ranges.{state_in_range, vram_len, wram_len, sound_len}
use Rattle.memory.specs.Region.{oam_start, page_start, region_of}
use Rattle.memory.specs.World.{World, world, Fixed, with_oam, with_mapper, with_used}
use Rattle.memory.specs.declared.Core.{Core}
use Rattle.memory.specs.declared.Memory.{Memory}
use Rattle.memory.specs.declared.region.Region.{Region}
use Rattle.memory.specs.declared.region.Region.TheVariants.{Rom, Vram, Save, Wram, Oam, Page}
use Rattle.registers.specs.Page.{read_register, write_register}
use Rattle.savelog.specs.Log.{width, address_end, log_limit, appended, full}
use Rattle.mmu.specs.PanDocs.{vram_at, wram_at}

-- a state in range, with memories of the lengths that it needs
pub record Holds (w : World) : Type 0 where
  pub state : state_in_range w.state ≡ true
  pub vram : length w.vram ≡ vram_len w.state.core.banks.colour
  pub wram : length w.wram ≡ wram_len w.state.core.banks.colour
  pub save : length w.save ≡ ram_len w.state.core.cartridge w.state.core.mapper
  pub log : length w.log ≤ log_limit

pub record Ready (x : Fixed) (w : World) : Type 0 where
  pub holds : Holds w
  pub rom : length x.rom ≡ rom_len w.state.core.cartridge
  pub sound : length x.sound ≡ sound_len

-- what a read of the lent memories needs of them: the mapper is in range, and they reach as far as it and the selected banks do
pub record Reaches (c : Core) (r v w s : List ℕ) : Type 0 where
  pub mapper : in_range c.cartridge c.mapper ≡ true
  pub rom : length r ≡ rom_len c.cartridge
  pub save : length s ≡ ram_len c.cartridge c.mapper
  pub vram : c.banks.vram * 0x2000 + 0x2000 ≤ length v
  pub wram : (0x1000 ≤ length w) × (c.banks.wram * 0x1000 + 0x1000 ≤ length w)

-- the byte at an index of a region; ROM and save are read through the mapper
abbrev pub byte_in : Region → Fixed → Memory → List ℕ → List ℕ → List ℕ → ℕ → ℕ
byte_in Rom x m v w s i = read_at m.core.cartridge m.core.mapper x.rom s i
byte_in Vram x m v w s i = slice_index v (vram_at m.core.banks.vram i)
byte_in Save x m v w s i = read_at m.core.cartridge m.core.mapper x.rom s i
byte_in Wram x m v w s i = slice_index w (wram_at m.core.banks.wram i)
byte_in Oam x m v w s i = slice_index m.oam (i - oam_start)
byte_in Page x m v w s i = read_register m x.sound (i - page_start)

abbrev pub read_byte : Fixed → Memory → List ℕ → List ℕ → List ℕ → ℕ → ℕ
read_byte x m v w s index = byte_in (region_of index) x m v w s index

-- a word read: low byte first; index + 1 wraps
abbrev pub read_word : Fixed → Memory → List ℕ → List ℕ → List ℕ → ℕ → ℕ
read_word x m v w s index = read_byte x m v w s index + read_byte x m v w s ((index + 1) % 65536) * 256

abbrev pub read_in : Fixed → World → ℕ → ℕ
read_in x w index = read_byte x w.state w.vram w.wram w.save index

-- the mapper after a write that it is asked for: in 0000..7FFF and A000..BFFF
abbrev pub mapper_put : Memory → ℕ → ℕ → Memory
mapper_put m i v = with_mapper m (after m.core.cartridge m.core.mapper i v)

-- what the mapper answers is done: a stored byte goes to the save and, as one record, to the log, whose use rises by the record
abbrev pub saved_state : Option Stored → Memory → Memory
saved_state (Some k) m = with_used m (m.core.used + width)
saved_state None m = m

abbrev pub saved_save : Option Stored → List ℕ → List ℕ
saved_save (Some k) s = slice_set s k.at k.value
saved_save None s = s

abbrev pub saved_log : Option Stored → ℕ → List ℕ → List ℕ
saved_log (Some k) used l = appended l used k.at k.value
saved_log None used l = l

abbrev pub saved : Option Stored → World → World
saved a w =
    world (saved_state a w.state) w.vram w.wram (saved_save a w.save) (saved_log a w.state.core.used w.log)

-- a byte to be stored has a place in a save of n bytes, and an address that a record can have
abbrev pub Lands : Option Stored → ℕ → Type 0
Lands a n = (k : Stored) → a ≡ Some k → (k.at < n) × (k.at < address_end)

-- the world with its state, its video memory or its work memory changed
abbrev pub in_state : World → Memory → World
in_state w m = world m w.vram w.wram w.save w.log

abbrev pub in_vram : World → List ℕ → World
in_vram w v = world w.state v w.wram w.save w.log

abbrev pub in_wram : World → List ℕ → World
in_wram w l = world w.state w.vram l w.save w.log

-- a write in A000..BFFF: the mapper after it, and what it answers is done. Without room in the log nothing is stored and nothing changes (a public call is
-- then refused by 2)
unfoldable pub save_put : World → ℕ → ℕ → World
save_put w i v =
    cond (full (length w.log) w.state.core.used 1) w
    (saved (answer w.state.core.cartridge w.state.core.mapper i v) (in_state w (mapper_put w.state i v)))

-- a byte write at an index of a region
abbrev pub put_in : Region → World → ℕ → ℕ → World
put_in Rom w i v = in_state w (mapper_put w.state i v)
put_in Vram w i v = in_vram w (slice_set w.vram (vram_at w.state.core.banks.vram i) v)
put_in Save w i v = save_put w i v
put_in Wram w i v = in_wram w (slice_set w.wram (wram_at w.state.core.banks.wram i) v)
put_in Oam w i v = in_state w (with_oam w.state (slice_set w.state.oam (i - oam_start) v))
put_in Page w i v = in_state w (write_register w.state (i - page_start) v)

abbrev pub put : World → ℕ → ℕ → World
put w index v = put_in (region_of index) w index v
