-- Pan Docs, "Memory Map", row by row.
use Rattle.std.specs.Prelude.{List, [], ◌∷◌, ◌≡◌, ℕ, ◌+◌, ◌-◌, ◌*◌, ◌^◌, ◌<◌, get_or, set}
use Rattle.mbc.specs.Mbc.{byte_of, ram_source, rom_bank}
use Rattle.memory.specs.Region.{region_of}
use Rattle.memory.specs.World.{World, Fixed, with_oam}
use Rattle.memory.specs.declared.region.Region.{Region}
use Rattle.memory.specs.declared.region.Region.TheVariants as region
use Rattle.mmu.specs.Access.{read_in, put, mapper_put, save_put, in_state, in_vram, in_wram}
use Rattle.registers.specs.Page.{read_register, write_register}
use Rattle.pan_docs.specs.Bits.{low}
use Rattle.pan_docs.specs.Rows.{Row, row, Only}

pub data What : Type 0 where
  FirstBank SwitchableBank Video CartridgeRam WorkZero WorkSwitchable Echo Objects NotUsable Io High InterruptEnable : What

abbrev pub map : List (Row What)
map =
    -- "0000-3FFF ROM, first bank. 4000-7FFF ROM, switchable bank."
    row 0x0000 0x3FFF FirstBank
    ∷ row 0x4000 0x7FFF SwitchableBank
    -- "8000-9FFF video memory (colour: bank 0 or 1). A000-BFFF cartridge RAM."
    ∷ row 0x8000 0x9FFF Video
    ∷ row 0xA000 0xBFFF CartridgeRam
    -- "C000-CFFF work memory, bank 0. D000-DFFF work memory (colour: bank 1 to 7). E000-FDFF the same bytes as C000-DDFF."
    ∷ row 0xC000 0xCFFF WorkZero
    ∷ row 0xD000 0xDFFF WorkSwitchable
    ∷ row 0xE000 0xFDFF Echo
    -- "FE00-FE9F object attribute memory. FEA0-FEFF not usable."
    ∷ row 0xFE00 0xFE9F Objects
    ∷ row 0xFEA0 0xFEFF NotUsable
    -- "FF00-FF7F I/O. FF80-FFFE high memory. FFFF interrupt enable."
    ∷ row 0xFF00 0xFF7F Io
    ∷ row 0xFF80 0xFFFE High
    ∷ row 0xFFFF 0xFFFF InterruptEnable
    ∷ []

-- the region of a row. Departs from Pan Docs: what is not usable is 96 more bytes of object attribute memory (document 01, "The bus")
abbrev pub region_in : What → Region
region_in FirstBank = region.Rom
region_in SwitchableBank = region.Rom
region_in Video = region.Vram
region_in CartridgeRam = region.Save
region_in WorkZero = region.Wram
region_in WorkSwitchable = region.Wram
region_in Echo = region.Wram
region_in Objects = region.Oam
region_in NotUsable = region.Oam
region_in Io = region.Page
region_in High = region.Page
region_in InterruptEnable = region.Page

-- the byte that is read in a row: a bank's size is a power of two, and the low bits of the address are the place in it. Departs with MBC1 in banking
-- mode, of which Pan Docs have the upper bits at 0000-3FFF too: the first bank is bank 0 here
abbrev pub byte_in : What → Fixed → World → ℕ → ℕ
byte_in FirstBank x w i = get_or x.rom (low 14 i) 0
byte_in SwitchableBank x w i = get_or x.rom (rom_bank w.state.core.mapper * 2 ^ 14 + low 14 i) 0
byte_in Video x w i = get_or w.vram (w.state.core.banks.vram * 2 ^ 13 + low 13 i) 0
-- where the mapper finds it: its own rules
byte_in CartridgeRam x w i = byte_of x.rom w.save (ram_source w.state.core.cartridge w.state.core.mapper i)
byte_in WorkZero x w i = get_or w.wram (low 12 i) 0
byte_in WorkSwitchable x w i = get_or w.wram (w.state.core.banks.wram * 2 ^ 12 + low 12 i) 0
byte_in Echo x w i = read_in x w (i - 0x2000)
byte_in Objects x w i = get_or w.state.oam (low 8 i) 0
byte_in NotUsable x w i = get_or w.state.oam (low 8 i) 0
byte_in Io x w i = read_register w.state x.sound (low 8 i)
byte_in High x w i = get_or w.state.page (low 8 i) 0
byte_in InterruptEnable x w i = get_or w.state.page (low 8 i) 0

-- what a byte write is in a row, before any transfer that it starts; the mappers' and the registers' rules are their own
abbrev pub put_in : What → World → ℕ → ℕ → World
put_in FirstBank w i v = in_state w (mapper_put w.state i v)
put_in SwitchableBank w i v = in_state w (mapper_put w.state i v)
put_in Video w i v = in_vram w (set w.vram (w.state.core.banks.vram * 2 ^ 13 + low 13 i) v)
put_in CartridgeRam w i v = save_put w i v
put_in WorkZero w i v = in_wram w (set w.wram (low 12 i) v)
put_in WorkSwitchable w i v = in_wram w (set w.wram (w.state.core.banks.wram * 2 ^ 12 + low 12 i) v)
put_in Echo w i v = put w (i - 0x2000) v
put_in Objects w i v = in_state w (with_oam w.state (set w.state.oam (low 8 i) v))
put_in NotUsable w i v = in_state w (with_oam w.state (set w.state.oam (low 8 i) v))
put_in Io w i v = in_state w (write_register w.state (low 8 i) v)
put_in High w i v = in_state w (write_register w.state (low 8 i) v)
put_in InterruptEnable w i v = in_state w (write_register w.state (low 8 i) v)

-- Every index lies in one row; its region, its read and its write are that row's
pub record Mapped (index : ℕ) (what : What) : Type 0 where
  pub region : region_of index ≡ region_in what
  pub read : (x : Fixed) (w : World) → read_in x w index ≡ byte_in what x w index
  pub write : (w : World) (v : ℕ) → put w index v ≡ put_in what w index v

abbrev pub MemoryMap : Type 0
MemoryMap = (index : ℕ) → index < 65536 → Only map index (Mapped index)
