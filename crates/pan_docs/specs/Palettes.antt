-- Pan Docs, "Palettes (CGB)", by bits. What FF69 and FF6B read is document 01's.
use Rattle.std.specs.Prelude.{cond, List, ◌≡◌, ℕ, ◌+◌, ◌-◌, ◌*◌, ◌%◌, ◌<◌, ltb, get_or, length}
use Rattle.palette.specs.Palette.{write_data}
use Rattle.palette.specs.PanDocs.{number_of, channels, byte_at}
use Rattle.palette.specs.declared.Color.{Color}
use Rattle.palette.specs.declared.Palette.{Palette}
use Rattle.pan_docs.specs.Bits.{bit, low}

-- "red in bits 4..0, green in 9..5, blue in 14..10"
abbrev pub colour_bits : Color → ℕ → ℕ
colour_bits c j = cond (ltb j 5) (bit c.red j) (cond (ltb j 10) (bit c.green (j - 5)) (cond (ltb j 15) (bit c.blue (j - 10)) 0))

-- "each colour is two bytes, low first"; "eight palettes of four colours": where byte b of colour c of palette q is
abbrev pub place : ℕ → ℕ → ℕ → ℕ
place q c b = q * 8 + c * 2 + b

pub record PaletteBits : Type 0 where
  pub bytes : (colors : List Color) (q c b j : ℕ) → c < 4 → b < 2 → j < 8
      → bit (byte_at colors (place q c b)) j ≡ colour_bits (get_or colors (q * 4 + c) (channels 0)) (b * 8 + j)
  pub colours : (c : Color) (j : ℕ) → bit (number_of c) j ≡ colour_bits c j
  -- "bits 5..0 an address in 64 bytes, bit 7 moves it up by one after each write of data"
  pub moves : (p : Palette) (v : ℕ) → bit p.index 7 ≡ 1
      → (low 6 (write_data p v).index ≡ (low 6 p.index + 1) % 64) × (bit (write_data p v).index 7 ≡ 1)
  pub stays : (p : Palette) (v : ℕ) → bit p.index 7 ≡ 0 → (write_data p v).index ≡ p.index
  -- a byte of data goes to the address, and no other byte changes (a colour's bit 15 is not there); there are 32 colours
  pub written : (p : Palette) (v j : ℕ) → length p.colors ≡ 32 → v < 256 → bit (low 6 p.index) 0 * 8 + j < 15
      → bit (byte_at (write_data p v).colors (low 6 p.index)) j ≡ bit v j
  pub others : (p : Palette) (v a : ℕ) → v < 256 → (low 6 p.index ≡ a → ⊥) → byte_at (write_data p v).colors a ≡ byte_at p.colors a
