-- The palette registers (document 01, "The bus": palettes follow `update_color_palette` and `set_color_palette`). Departures from Pan Docs: the data
-- register keeps a byte of its own, the byte written or, where the address changed, the byte at the new address; and a step of the address
-- clears bit 6. (The byte is made before the colour is set; proofs/Memory.antt shows that made after it would be the same.)
use Rattle.std.specs.Prelude.{Bool, true, cond, ◌&&◌, List, [], ◌∷◌, ℕ, ◌+◌, ltb}
use Rattle.palette.specs.PanDocs.{address_of, moves, next_address, byte_in, put_in, byte_at, put_at}
use Rattle.palette.specs.declared.Color.{Color}
use Rattle.palette.specs.declared.Palette.{Palette}
use Rattle.palette.specs.declared.Written.{Written}

abbrev pub with_index : Palette → ℕ → Palette
with_index p value = record { index = value; «data» = p.«data»; colors = p.colors }

abbrev pub with_data : Palette → ℕ → Palette
with_data p value = record { index = p.index; «data» = value; colors = p.colors }

abbrev pub with_colors : Palette → List Color → Palette
with_colors p colors = record { index = p.index; «data» = p.«data»; colors = colors }

-- the data register shows the byte at the address in `value`
abbrev pub update_color_palette : Palette → ℕ → Palette
update_color_palette p value = with_data p (byte_at p.colors (address_of value))

-- FF68, FF6A: the register, and then the byte at its address
abbrev pub write_index : Palette → ℕ → Palette
write_index p value = update_color_palette (with_index p value) value

-- the address moves up if bit 7 is set; bit 6 becomes 0
unfoldable pub moved : Palette → Palette
moved p = cond (moves p.index) (write_index p (128 + next_address p.index)) p

-- the colour at the address in `index` takes a byte
abbrev pub colored : Palette → ℕ → ℕ → Palette
colored p index value = with_colors p (put_at p.colors (address_of index) value)

-- first the address moves, then the colour at the address as it was is set
abbrev pub set_color_palette : Palette → ℕ → Palette
set_color_palette p value = colored (moved p) p.index value

-- FF69, FF6B
abbrev pub write_data : Palette → ℕ → Palette
write_data p value = set_color_palette (with_data p value) value

-- How the code goes: `write_data` by the two colours that it needs, those at the address and at the address after (proofs/Bytes.antt, `data_parts`)

unfoldable pub next_index : ℕ → ℕ
next_index index = cond (moves index) (128 + next_address index) index

unfoldable pub shown_after : ℕ → Color → ℕ → ℕ
shown_after index next value = cond (moves index) (byte_in next (address_of (next_index index))) value

abbrev pub data_written : ℕ → Color → Color → ℕ → Written
data_written index c next value =
    record { index = next_index index; «data» = shown_after index next value; color = put_in c (address_of index) value }

-- document 01, "State ranges": colours 0..31
unfoldable pub in_range : Color → Bool
in_range c = ltb c.red 32 && ltb c.green 32 && ltb c.blue 32

unfoldable pub colors_in_range : List Color → Bool
colors_in_range [] = true
colors_in_range (c ∷ colors) = in_range c && colors_in_range colors
