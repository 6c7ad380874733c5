-- Registers that only a colour machine has (document 01, "The bus": "Colour only (monochrome just stores)": FF4D, FF4F, FF70).
-- The stored bytes of FF4F (bit 0) and FF70 (bits 2..0), and that the palettes' FF68..FF6B are colour only too, are the Rust's.
use Rattle.std.specs.Prelude.{cond, ℕ, ◌+◌, ◌%◌, set}
use Rattle.memory.specs.World.{with_banks, with_background, with_sprites}
use Rattle.memory.specs.declared.Memory.{Memory}
use Rattle.palette.specs.Palette.{write_index, write_data}
use Rattle.palette.specs.declared.Palette.{Palette}
use Rattle.registers.specs.PanDocs.{speed_of, vram_bank_of, wram_bank_of}
use Rattle.registers.specs.State.{loaded, stored}
use Rattle.registers.specs.declared.colour.Plane.{Plane}
use Rattle.registers.specs.declared.colour.Plane.TheVariants.{Background, Sprites}

-- monochrome just stores
abbrev pub in_colour : Memory → ℕ → ℕ → Memory → Memory
in_colour m at v coloured = cond m.core.banks.colour coloured (stored m at v)

unfoldable pub speed_put : Memory → ℕ → Memory
speed_put m v = in_colour m 0x4D v (stored m 0x4D (speed_of (loaded m 0x4D) v))

unfoldable pub vram_bank_put : Memory → ℕ → Memory
vram_bank_put m v =
    in_colour m 0x4F v
    (with_banks m (record { colour = m.core.banks.colour; vram = vram_bank_of v; wram = m.core.banks.wram }) (set m.page 0x4F (vram_bank_of v)))

unfoldable pub wram_bank_put : Memory → ℕ → Memory
wram_bank_put m v =
    in_colour m 0x70 v
    (with_banks m (record { colour = m.core.banks.colour; vram = m.core.banks.vram; wram = wram_bank_of v }) (set m.page 0x70 (v % 8)))

-- the background's palette: FF68, FF69 and its colours
abbrev pub background_of : Memory → Palette
background_of m = record { index = loaded m 0x68; «data» = loaded m 0x69; colors = m.background }

abbrev pub with_background_palette : Memory → Palette → Memory
with_background_palette m p = with_background m p.colors (set (set m.page 0x68 p.index) 0x69 p.«data»)

-- the sprites': FF6A, FF6B
abbrev pub sprites_of : Memory → Palette
sprites_of m = record { index = loaded m 0x6A; «data» = loaded m 0x6B; colors = m.sprites }

abbrev pub with_sprite_palette : Memory → Palette → Memory
with_sprite_palette m p = with_sprites m p.colors (set (set m.page 0x6A p.index) 0x6B p.«data»)

unfoldable pub background_index_put : Memory → ℕ → Memory
background_index_put m v = in_colour m 0x68 v (with_background_palette m (write_index (background_of m) v))

unfoldable pub background_data_put : Memory → ℕ → Memory
background_data_put m v = in_colour m 0x69 v (with_background_palette m (write_data (background_of m) v))

unfoldable pub sprite_index_put : Memory → ℕ → Memory
sprite_index_put m v = in_colour m 0x6A v (with_sprite_palette m (write_index (sprites_of m) v))

unfoldable pub sprite_data_put : Memory → ℕ → Memory
sprite_data_put m v = in_colour m 0x6B v (with_sprite_palette m (write_data (sprites_of m) v))

-- the same by whose palette it is

-- the index register; the data register is the next one
abbrev pub index_at : Plane → ℕ
index_at Background = 0x68
index_at Sprites = 0x6A

abbrev pub palette_of : Plane → Memory → Palette
palette_of Background m = background_of m
palette_of Sprites m = sprites_of m

abbrev pub with_palette : Plane → Memory → Palette → Memory
with_palette Background m p = with_background_palette m p
with_palette Sprites m p = with_sprite_palette m p

abbrev pub index_put : Plane → Memory → ℕ → Memory
index_put p m v = in_colour m (index_at p) v (with_palette p m (write_index (palette_of p m) v))

abbrev pub data_put : Plane → Memory → ℕ → Memory
data_put p m v = in_colour m (index_at p + 1) v (with_palette p m (write_data (palette_of p m) v))
