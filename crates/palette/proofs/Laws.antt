-- What a write to a palette keeps, for the bus above; and document 01's corner 13 with its like, computed.
use mathlib.Core.Bool.{true, and-eq-true_iff}
use mathlib.Core.List.{List, [], ◌∷◌}
use mathlib.Core.Path.{◌≡◌, refl, ◌∙◌}
use Prim.Native.Nat.{ℕ, zero, suc, ◌/◌, ◌%◌, ◌<◌}
use native.Mathlib.Omega.{arith}
use lib.Bits.{bit_or}
use lib.ListN.{length, set, replicate, length-set}
use borrow.Author.Tests.{lt-ltb}
use Rattle.bit_utils.specs.Bits.{is_set}
use Rattle.rules.proofs.Tests.{cond_both}
use Rattle.palette.specs.PanDocs.{address_of, is_high, channels, byte_at, put_at, color_at}
use Rattle.palette.specs.Palette.{
  update_color_palette,
  write_index,
  moved,
  colored,
  set_color_palette,
  write_data,
  in_range,
  colors_in_range,
}
use Rattle.palette.specs.declared.Color.{Color}
use Rattle.palette.specs.declared.Palette.{Palette}

-- two bytes, 32 colours, and every channel below 32
pub record Ready (p : Palette) : Type 0 where
  pub index : p.index < 256
  pub shown : p.«data» < 256
  pub size : length p.colors ≡ 32
  pub range : colors_in_range p.colors ≡ true

pub byte_below : (colors : List Color) (a : ℕ) → byte_at colors a < 256
unfolding byte_at
byte_below colors a = cond_both (λ (n : ℕ). n < 256) (is_high a) (omega arith) (omega arith)

pub channels_range : (n : ℕ) → in_range (channels n) ≡ true
unfolding in_range
channels_range n =
    rw (lt-ltb (n % 32) 32 (omega arith), lt-ltb (n / 32 % 32) 32 (omega arith), lt-ltb (n / 1024 % 32) 32 (omega arith))

pub set_range : (colors : List Color) (i : ℕ) (c : Color) → colors_in_range colors ≡ true → in_range c ≡ true
    → colors_in_range (set colors i c) ≡ true
unfolding colors_in_range
set_range [] i c h l = h
set_range (d ∷ ds) zero c h l = rw (l, ((and-eq-true_iff (in_range d) (colors_in_range ds)).0 h).1)
set_range (d ∷ ds) (suc i) c h l =
    let t = (and-eq-true_iff (in_range d) (colors_in_range ds)).0 h in
    rw (t.0, set_range ds i c t.1 l)

pub put_size : (colors : List Color) (a v : ℕ) → length (put_at colors a v) ≡ length colors
unfolding put_at
put_size colors a v = simp length-set

pub put_range : (colors : List Color) (a v : ℕ) → colors_in_range colors ≡ true → colors_in_range (put_at colors a v) ≡ true
unfolding put_at
put_range colors a v h = set_range _ _ _ h (channels_range _)

pub update_ready : (p : Palette) (v : ℕ) → Ready p → Ready (update_color_palette p v)
update_ready p v h =
    record { index = h.index; shown = byte_below p.colors (address_of v); size = h.size; range = h.range }

pub index_ready : (p : Palette) (v : ℕ) → v < 256 → Ready p → Ready (write_index p v)
index_ready p v l h = record { index = l; shown = byte_below p.colors (address_of v); size = h.size; range = h.range }

moved_ready : (p : Palette) → Ready p → Ready (moved p)
unfolding moved
moved_ready p h = cond_both Ready (is_set p.index 7) (index_ready p _ (omega arith) h) h

colored_ready : (p : Palette) (i v : ℕ) → Ready p → Ready (colored p i v)
colored_ready p i v h =
    record {
      index = h.index;
      shown = h.shown;
      size = put_size p.colors (address_of i) v ∙ h.size;
      range = put_range p.colors (address_of i) v h.range;
    }

pub set_ready : (p : Palette) (v : ℕ) → Ready p → Ready (set_color_palette p v)
set_ready p v h = colored_ready (moved p) p.index v (moved_ready p h)

pub data_ready : (p : Palette) (v : ℕ) → v < 256 → Ready p → Ready (write_data p v)
data_ready p v l h = set_ready _ v (record { index = h.index; shown = l; size = h.size; range = h.range })

-- the colours of a fresh bus, with any bytes in the registers
abbrev pub fresh : ℕ → ℕ → Palette
fresh i d = record { index = i; «data» = d; colors = replicate 32 (channels 0) }

-- document 01, corner 13: FF68 80, then FF69 1F, 7C: colour (31, 0, 31), and FF68, which reads with bit 6 set, C2
abbrev corner : ℕ → ℕ → Palette
corner i d = write_data (write_data (write_index (fresh i d) 0x80) 0x1F) 0x7C

pub corner_13 : (i d : ℕ)
    → (color_at (corner i d).colors 0 ≡ record { red = 31; green = 0; blue = 31 })
    × (((corner i d).index ≡ 0x82) × (bit_or (corner i d).index 0x40 ≡ 0xC2))
unfolding moved byte_at put_at is_set
corner_13 i d = (refl, (refl, refl))

-- FF68 C0, FF69 FF: the registers hold 81, with bit 6 cleared, and 00, made before the colour was set
pub bit_six : (i d : ℕ)
    → ((write_data (write_index (fresh i d) 0xC0) 0xFF).index ≡ 0x81) × ((write_data (write_index (fresh i d) 0xC0) 0xFF).«data» ≡ 0x00)
unfolding moved byte_at put_at is_set
bit_six i d = (refl, refl)
