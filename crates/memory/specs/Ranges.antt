-- Lengths of the lent memories (document 01, "Cartridge and buffers") and ranges of the state (document 01, "State ranges").
use Rattle.std.specs.Prelude.{Bool, cond, not, ◌&&◌, ◌||◌, ℕ, ◌%◌, eqb, leb}
use Rattle.hdma.specs.declared.Hdma.{Hdma}
use Rattle.mbc.specs.Mbc as mbc
use Rattle.palette.specs.Palette.{colors_in_range}
use Rattle.savelog.specs.Log.{use_in_range}
use Rattle.memory.specs.declared.Banks.{Banks}
use Rattle.memory.specs.declared.Core.{Core}
use Rattle.memory.specs.declared.Memory.{Memory}

-- monochrome: VRAM 8,192, WRAM 8,192; colour: 16,384 and 32,768
abbrev pub vram_len : Bool → ℕ
vram_len colour = cond colour 0x4000 0x2000

abbrev pub wram_len : Bool → ℕ
wram_len colour = cond colour 0x8000 0x2000

-- the sound window is 48 bytes
abbrev pub sound_len : ℕ
sound_len = 48

-- WRAM bank 1..7, VRAM bank 0..1; monochrome: 1 and 0
unfoldable pub banks_in_range : Banks → Bool
banks_in_range b =
    cond b.colour (leb b.vram 1 && (leb 1 b.wram && leb b.wram 7)) (eqb b.vram 0 && eqb b.wram 1)

-- addresses are multiples of 16; monochrome: HDMA off
unfoldable pub hdma_in_range : Hdma → Bool → Bool
hdma_in_range h colour = eqb (h.source % 16) 0 && (eqb (h.destination % 16) 0 && (colour || not h.on))

-- `tima_cycles` 0..1023 (`div_cycles` is a byte); the mapper's own ranges
unfoldable pub groups_in_range : Core → Bool
groups_in_range c =
    banks_in_range c.banks
    && (hdma_in_range c.hdma c.banks.colour && (leb c.clock.tima 1023 && mbc.in_range c.cartridge c.mapper))

-- colours 0..31
unfoldable pub palettes_in_range : Memory → Bool
palettes_in_range m = colors_in_range m.background && colors_in_range m.sprites

-- all but the log use
unfoldable pub state_in_range : Memory → Bool
state_in_range m = groups_in_range m.core && palettes_in_range m

-- log use: whole records within the log
unfoldable pub in_range : Memory → ℕ → Bool
in_range m limit = state_in_range m && use_in_range m.core.used limit

-- all but the colours
unfoldable pub core_in_range : Core → ℕ → Bool
core_in_range c limit = groups_in_range c && use_in_range c.used limit
