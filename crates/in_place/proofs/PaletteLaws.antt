-- A palette's registers and colours in an image are those of its state; put, they make the image of the changed state.
use mathlib.Core.Bool.{true}
use mathlib.Core.List.{List, ◌++◌}
use mathlib.Core.Path.{◌≡◌, refl, sym, ap, ◌∙◌}
use Prim.Native.Nat.{ℕ, ◌+◌, ◌<◌}
use native.Mathlib.Nat.{zero-add}
use native.Mathlib.Omega.{arith}
use lib.ListN.{length, get_or, set, get_or-append}
use lib.Seq.{get_or-append-add, set-append_left}
use Rattle.image.proofs.ColorPatches.{color_read, color_image}
use Rattle.image.proofs.PatchLaws.{set_behind}
use Rattle.image.proofs.StateLaws.{storable_state}
use Rattle.image.specs.Layout.{image_of}
use Rattle.image.specs.Patches.{color_in, color_put}
use Rattle.memory.specs.World.{with_background, with_sprites}
use Rattle.memory.specs.declared.Memory.{Memory}
use Rattle.palette.proofs.Bytes.{data_parts}
use Rattle.palette.proofs.Laws.{Ready, byte_below, channels_range, data_ready}
use Rattle.palette.specs.PanDocs.{address_of, color_of, channels, byte_in, color_at, byte_at}
use Rattle.palette.specs.Palette.{write_index, write_data, next_index, data_written, in_range}
use Rattle.palette.specs.declared.Color.{Color}
use Rattle.palette.specs.declared.Palette.{Palette}
use Rattle.palette.specs.declared.Written.{Written}
use Rattle.registers.specs.Colour.{background_of, with_background_palette, sprites_of, with_sprite_palette, index_at, palette_of, with_palette}
use Rattle.registers.specs.declared.colour.Plane.{Plane}
use Rattle.registers.specs.declared.colour.Plane.TheVariants.{Background, Sprites}
use Rattle.in_place.specs.Held.{Held}
use Rattle.in_place.specs.Palettes.{first_of, color_for, index_put, data_of, data_put}
use Rattle.in_place.proofs.Fine.{Fine, typed_fine, background_ready, sprites_ready}
use Rattle.in_place.proofs.Images.{ImageOf, state, held, byte, put_byte}

-- The code's own steps

module _ (i : List ℕ) (at first v : ℕ) where
  pub index_put_law : {k d : ℕ} {c : Color} → k ≡ color_of (address_of v) → c ≡ color_in i (first + k) → d ≡ byte_in c (address_of v)
      → set (set i at v) (at + 1) d ≡ index_put i at first v
  unfolding index_put
  index_put_law a b e =
      ap (λ (n : ℕ). set (set i at v) (at + 1) n)
      (e ∙ ap (λ (x : Color). byte_in x (address_of v)) (b ∙ ap (λ (n : ℕ). color_in i (first + n)) a))

  module _ {k n j : ℕ} {c d : Color} {w : Written} (a : k ≡ color_of (address_of (get_or i at 0))) (b : c ≡ color_in i (first + k)) (e : n ≡ next_index (get_or i at 0))
      (f : j ≡ color_of (address_of n)) (g : d ≡ color_in i (first + j)) (r : w ≡ data_written (get_or i at 0) c d v) where
    data_of_law : w ≡ data_of i at first v
    unfolding data_of
    data_of_law =
        let x = get_or i at 0 in
        r ∙ ap (λ (y : Color). data_written x y d v) (b ∙ ap (λ (m : ℕ). color_in i (first + m)) a)
        ∙ ap (λ (y : Color). data_written x (color_in i (color_for first x)) y v)
        (g ∙ ap (λ (m : ℕ). color_in i (first + m)) (f ∙ ap (λ (m : ℕ). color_of (address_of m)) e))

    pub data_put_law : {l : List ℕ} → l ≡ color_put (set (set i at w.index) (at + 1) w.«data») (first + k) w.color → l ≡ data_put i at first v
    unfolding data_put
    data_put_law h =
        h ∙ ap (λ (y : Written). color_put (set (set i at y.index) (at + 1) y.«data») (first + k) y.color) data_of_law
        ∙ ap (λ (m : ℕ). color_put (set (set i at (data_of i at first v).index) (at + 1) (data_of i at first v).«data») (first + m) (data_of i at first v).color) a

-- a colour put
module _ {i : List ℕ} {m : Memory} (e : ImageOf i m) (k : ℕ) (h : k < 32) (c : Color) (r : in_range c ≡ true) where
  put_background : color_put i (0 + k) c ≡ image_of (with_background m (set m.background k c) m.page)
  put_background =
      let n : k < length m.background = omega (arith, e.typed.background) in
      rw (zero-add k)
      (ap (λ (l : List ℕ). color_put l k c) e.same
      ∙ color_image m e.typed e.storable k (omega arith) c r (set m.background k c) m.sprites
      (sym (set-append_left m.background m.sprites k c n)))

  put_sprite : color_put i (32 + k) c ≡ image_of (with_sprites m (set m.sprites k c) m.page)
  put_sprite =
      ap (λ (l : List ℕ). color_put l (32 + k) c) e.same
      ∙ color_image m e.typed e.storable (32 + k) (omega arith) c r m.background (set m.sprites k c)
      (sym (set_behind m.background m.sprites 32 e.typed.background k c))

module _ (i : List ℕ) (h : Held i) where
  -- what is read
  color : (k : ℕ) → k < 64 → color_in i k ≡ get_or ((state i h).background ++ (state i h).sprites) k (channels 0)
  color k b =
      let e = held i h in
      ap (λ (l : List ℕ). color_in l k) e.same ∙ color_read (state i h) e.typed e.storable k b

  background_color : (k : ℕ) → k < 32 → color_in i (0 + k) ≡ get_or (state i h).background k (channels 0)
  background_color k b =
      let n : k < length (state i h).background = omega (arith, (held i h).typed.background) in
      rw (zero-add k) (color k (omega arith) ∙ get_or-append (state i h).background (state i h).sprites (channels 0) k n)

  sprite_color : (k : ℕ) → k < 32 → color_in i (32 + k) ≡ get_or (state i h).sprites k (channels 0)
  sprite_color k b =
      let n = (held i h).typed.background in
      color (32 + k) (omega arith)
      ∙ ap (λ (j : ℕ). get_or ((state i h).background ++ (state i h).sprites) (j + k) (channels 0)) (sym n)
      ∙ get_or-append-add (state i h).background (state i h).sprites k (channels 0)

  fine : Fine (state i h)
  fine = let e = held i h in typed_fine (state i h) e.typed (storable_state (state i h) e.storable)

  -- either palette
  module _ (p : Palette) (first : ℕ) (read : (k : ℕ) → k < 32 → color_in i (first + k) ≡ get_or p.colors k (channels 0)) where
    color_for_law : (v : ℕ) → color_in i (color_for first v) ≡ color_at p.colors (address_of v)
    color_for_law v = read (color_of (address_of v)) (omega arith)

    shown : (v : ℕ) → byte_in (color_in i (color_for first v)) (address_of v) ≡ byte_at p.colors (address_of v)
    unfolding byte_at
    shown v = ap (λ (c : Color). byte_in c (address_of v)) (color_for_law v)

    module _ (v : ℕ) (b : v < 256) (r : Ready p) where
      abbrev written : Written
      written = data_written p.index (color_at p.colors (address_of p.index)) (color_at p.colors (address_of (next_index p.index))) v

      changed : record { index = written.index; «data» = written.«data»; colors = set p.colors (color_of (address_of p.index)) written.color }
          ≡ write_data p v
      changed = data_parts p v refl refl refl refl

      same_data : (at : ℕ) → get_or i at 0 ≡ p.index → data_of i at first v ≡ written
      unfolding data_of
      same_data at e =
          let k = p.index in
          let n = next_index p.index in
          ap (λ (x : ℕ). data_written x (color_in i (color_for first x)) (color_in i (color_for first (next_index x))) v) e
          ∙ ap (λ (c : Color). data_written k c (color_in i (color_for first n)) v) (color_for_law k)
          ∙ ap (λ (c : Color). data_written k (color_at p.colors (address_of k)) c v) (color_for_law n)

      index_below : written.index < 256
      index_below = rw (ap (λ (q : Palette). q.index) changed) (data_ready p v b r).index

      shown_below : written.«data» < 256
      shown_below = rw (ap (λ (q : Palette). q.«data») changed) (data_ready p v b r).shown

  abbrev background : Palette
  background = background_of (state i h)

  abbrev sprites : Palette
  sprites = sprites_of (state i h)

  module _ (v : ℕ) (b : v < 256) where
    pub background_index : {j : List ℕ} → j ≡ index_put i 0x168 0 v → j ≡ image_of (with_background_palette (state i h) (write_index background v))
    unfolding index_put
    background_index e =
        e ∙ ap (λ (d : ℕ). set (set i 0x168 v) 0x169 d) (shown background 0 background_color v)
        ∙ (put_byte (put_byte (held i h) 0x68 v (omega arith) b) 0x69 _ (omega arith) (byte_below background.colors (address_of v))).same

    pub background_data : {j : List ℕ} → j ≡ data_put i 0x168 0 v → j ≡ image_of (with_background_palette (state i h) (write_data background v))
    unfolding data_put
    background_data e =
        let r = background_ready fine in
        let w = written background 0 background_color v b r in
        let d = byte i h 0x68 (omega arith) in
        let x = index_below background 0 background_color v b r in
        let y = shown_below background 0 background_color v b r in
        rw (same_data background 0 background_color v b r 0x168 d, d) at e
        ∙ put_background (put_byte (put_byte (held i h) 0x68 w.index (omega arith) x) 0x69 w.«data» (omega arith) y) _ (omega arith) w.color
        (channels_range _)
        ∙ ap (λ (q : Palette). image_of (with_background_palette (state i h) q)) (changed background 0 background_color v b r)

    pub sprite_index : {j : List ℕ} → j ≡ index_put i 0x16A 32 v → j ≡ image_of (with_sprite_palette (state i h) (write_index sprites v))
    unfolding index_put
    sprite_index e =
        e ∙ ap (λ (d : ℕ). set (set i 0x16A v) 0x16B d) (shown sprites 32 sprite_color v)
        ∙ (put_byte (put_byte (held i h) 0x6A v (omega arith) b) 0x6B _ (omega arith) (byte_below sprites.colors (address_of v))).same

    pub sprite_data : {j : List ℕ} → j ≡ data_put i 0x16A 32 v → j ≡ image_of (with_sprite_palette (state i h) (write_data sprites v))
    unfolding data_put
    sprite_data e =
        let r = sprites_ready fine in
        let w = written sprites 32 sprite_color v b r in
        let d = byte i h 0x6A (omega arith) in
        let x = index_below sprites 32 sprite_color v b r in
        let y = shown_below sprites 32 sprite_color v b r in
        rw (same_data sprites 32 sprite_color v b r 0x16A d, d) at e
        ∙ put_sprite (put_byte (put_byte (held i h) 0x6A w.index (omega arith) x) 0x6B w.«data» (omega arith) y) _ (omega arith) w.color
        (channels_range _)
        ∙ ap (λ (q : Palette). image_of (with_sprite_palette (state i h) q)) (changed sprites 32 sprite_color v b r)

-- either, by where the code has it

module _ (i : List ℕ) (h : Held i) (v : ℕ) (b : v < 256) (p : Plane) {at first : ℕ} (a : at ≡ 256 + index_at p) (f : first ≡ first_of p) where
  pub index_written : {j : List ℕ} → j ≡ index_put i at first v
      → j ≡ image_of (with_palette p (state i h) (write_index (palette_of p (state i h)) v))
  index_written e = by_plane p (rw (a, f) at e)
    where
      by_plane : (p : Plane) {j : List ℕ} → j ≡ index_put i (256 + index_at p) (first_of p) v
          → j ≡ image_of (with_palette p (state i h) (write_index (palette_of p (state i h)) v))
      by_plane Background e = background_index i h v b e
      by_plane Sprites e = sprite_index i h v b e

  pub data_written_law : {j : List ℕ} → j ≡ data_put i at first v
      → j ≡ image_of (with_palette p (state i h) (write_data (palette_of p (state i h)) v))
  data_written_law e = by_plane p (rw (a, f) at e)
    where
      by_plane : (p : Plane) {j : List ℕ} → j ≡ data_put i (256 + index_at p) (first_of p) v
          → j ≡ image_of (with_palette p (state i h) (write_data (palette_of p (state i h)) v))
      by_plane Background e = background_data i h v b e
      by_plane Sprites e = sprite_data i h v b e
