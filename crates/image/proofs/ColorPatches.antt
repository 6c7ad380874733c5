-- One colour of an image: read, it is the state's; put, it makes the image of the changed state. The colours and the fields together are a layout that fills
-- the bytes to their end, so that the laws of crate places hold.
use mathlib.Core.Bool.{true}
use mathlib.Core.Path.{◌≡◌, refl, sym, ap, ◌∙◌}
use mathlib.Core.List.{List, [], ◌∷◌, ◌++◌}
use Prim.Native.Nat.{ℕ, zero, suc, ◌+◌, ◌*◌, ◌/◌, ◌^◌, ◌<◌, ◌≤◌}
use native.Mathlib.Omega.{arith}
use lib.ListN.{length, take, drop, get_or, set, length-append}
use lib.Seq.{take_at, drop_at}
use Rattle.packing.specs.Packing.{Below, bits, packed, unpacked, repacked, eights, fives}
use Rattle.packing.proofs.Laws.{unpack_length, unpack_append}
use Rattle.palette.specs.Palette.{in_range}
use Rattle.palette.specs.PanDocs as pan
use Rattle.palette.specs.declared.Color.{Color}
use Rattle.places.specs.Places.{number, field_at}
use Rattle.places.proofs.Laws.{field_in}
use Rattle.places.proofs.Puts.{Put, put_fields_law}
use Rattle.memory.specs.declared.Memory.{Memory}
use Rattle.image.specs.Laws.{Typed}
use Rattle.image.specs.Layout.{image_len, field_widths, widths, channels, field_values, values, image_of}
use Rattle.image.specs.Load.{storable, values_of}
use Rattle.image.specs.Patches.{color_place, color_in, color_put}
use Rattle.image.proofs.ColorLaws.{three}
use Rattle.image.proofs.FieldLaws.{image_of_values}
use Rattle.image.proofs.Parts.{joined}
use Rattle.image.proofs.Round.{state_back, values_back, bytes_of_values, rest_of_values}

-- Lists of colours as lists of channels

channels_append : (a b : List Color) → channels (a ++ b) ≡ channels a ++ channels b
channels_append [] b = refl
channels_append (c ∷ a) b = ap (λ (l : List ℕ). c.red ∷ c.green ∷ c.blue ∷ l) (channels_append a b)

next : (k : ℕ) → suc k * 3 ≡ suc (suc (suc (k * 3)))
next k = omega arith

module _ (rest : List ℕ) where
  red_at : (colors : List Color) (k : ℕ) (d : Color) → k < length colors → get_or (channels colors ++ rest) (k * 3) 0 ≡ (get_or colors k d).red
  red_at [] k d h = absurd (omega arith)
  red_at (c ∷ colors) zero d h = refl
  red_at (c ∷ colors) (suc k) d h = rw (next k) (red_at colors k d (omega arith))

  green_at : (colors : List Color) (k : ℕ) (d : Color) → k < length colors → get_or (channels colors ++ rest) (suc (k * 3)) 0 ≡ (get_or colors k d).green
  green_at [] k d h = absurd (omega arith)
  green_at (c ∷ colors) zero d h = refl
  green_at (c ∷ colors) (suc k) d h = rw (next k) (green_at colors k d (omega arith))

  blue_at : (colors : List Color) (k : ℕ) (d : Color) → k < length colors → get_or (channels colors ++ rest) (suc (suc (k * 3))) 0 ≡ (get_or colors k d).blue
  blue_at [] k d h = absurd (omega arith)
  blue_at (c ∷ colors) zero d h = refl
  blue_at (c ∷ colors) (suc k) d h = rw (next k) (blue_at colors k d (omega arith))

  three_set : (colors : List Color) (k : ℕ) (c : Color) → k < length colors
      → set (set (set (channels colors ++ rest) (k * 3) c.red) (suc (k * 3)) c.green) (suc (suc (k * 3))) c.blue
      ≡ channels (set colors k c) ++ rest
  three_set [] k c h = absurd (omega arith)
  three_set (d ∷ colors) zero c h = refl
  three_set (d ∷ colors) (suc k) c h =
      rw (next k) (ap (λ (l : List ℕ). d.red ∷ d.green ∷ d.blue ∷ l) (three_set colors k c (omega arith)))

-- The layout from the colours on

back : List ℕ
back = fives 192 ++ field_widths

place_of : (k n : ℕ) (us : List ℕ) → n ≤ k → bits (take n (fives k ++ us)) ≡ n * 5
place_of k zero us h = refl
place_of zero (suc n) us h = absurd (omega arith)
place_of (suc k) (suc n) us h = let e = place_of k n us (omega arith) in omega arith

width_of : (k n : ℕ) (us : List ℕ) → n < k → get_or (fives k ++ us) n 0 ≡ 5
width_of zero n us h = absurd (omega arith)
width_of (suc k) zero us h = refl
width_of (suc k) (suc n) us h = width_of k n us (omega arith)

back_bits : 4096 + bits back ≡ 8 * image_len
unfolding back
back_bits = refl

back_length : length back ≡ 192 + length field_widths
unfolding back
back_length = refl

module _ (n : ℕ) (h : n < 192) where
  place : bits (take n back) ≡ n * 5
  unfolding back
  place = place_of 192 n field_widths (omega arith)

  width : get_or back n 0 ≡ 5
  unfolding back
  width = width_of 192 n field_widths h

heads : ℕ → List ℕ
heads n = unpacked (eights 512) (n / 2 ^ bits back)

heads_length : (n : ℕ) → length (heads n) ≡ 512
unfolding heads
heads_length n = unpack_length (eights 512) (n / 2 ^ bits back)

parts : (n : ℕ) → unpacked widths n ≡ heads n ++ unpacked back n
unfolding widths heads back
parts n = unpack_append (eights 512) (fives 192 ++ field_widths) n

module _ (l : List ℕ) (size : length l ≡ image_len) where
  values_number : values_of l ≡ heads (number l) ++ unpacked back (number l)
  unfolding values_of repacked number
  values_number = ap (λ (i : ℕ). unpacked widths (packed (eights i) l)) (sym size) ∙ parts (number l)

  heads_in : take 512 (values_of l) ≡ heads (number l)
  heads_in = ap (take 512) values_number ∙ take_at (heads (number l)) (unpacked back (number l)) 512 (heads_length (number l))

  back_in : drop 512 (values_of l) ≡ unpacked back (number l)
  back_in = ap (drop 512) values_number ∙ drop_at (heads (number l)) (unpacked back (number l)) 512 (heads_length (number l))

  fills : 4096 + bits back ≡ 8 * length l
  fills = back_bits ∙ ap (λ (n : ℕ). 8 * n) (sym size)

  channel : (n b : ℕ) → n < 192 → b ≡ 4096 + n * 5 → field_at l b 5 ≡ get_or (unpacked back (number l)) n 0
  channel n b h e =
      sym (field_in l 4096 back n fills (omega (arith, back_length)) ∙ rw (place n h, width n h, ← e))

  module _ (below : Below 256 l) (k : ℕ) (h : k < 64) (c : Color) (r : in_range c ≡ true) where
    abbrev set_in : List ℕ
    set_in =
        set (set (set (unpacked back (number l)) (k * 3) c.red) (suc (k * 3)) c.green) (suc (suc (k * 3))) c.blue

    put_in : Put back l (color_put l k c) set_in
    unfolding color_put
    put_in =
        let n = k * 3 in
        let a : 4096 + k * 3 * 5 ≡ color_place k = omega arith in
        let b : 4096 + suc (k * 3) * 5 ≡ color_place k + 5 = omega arith in
        let d : 4096 + suc (suc (k * 3)) * 5 ≡ color_place k + 10 = omega arith in
        let t = three c r in
        let p = put_fields_law 4096 back l ((n, c.red) ∷ (suc n, c.green) ∷ (suc (suc n), c.blue) ∷ []) below fills in
        rw (place n (omega arith), place (suc n) (omega arith), place (suc (suc n)) (omega arith), width n (omega arith), width (suc n) (omega arith), width (suc (suc n)) (omega arith), a, b, d) at p
        (t.0, (t.1.0, (t.1.1, omega arith)))

-- A state's colours

module _ (m : Memory) (t : Typed m) (h : storable m ≡ true) where
  abbrev colors : List Color
  colors = m.background ++ m.sprites

  many : length colors ≡ 64
  many = length-append m.background m.sprites ∙ rw (t.background, t.sprites)

  size : length (image_of m) ≡ image_len
  size = (state_back m t h).0

  colors_in_law : unpacked back (number (image_of m)) ≡ channels colors ++ field_values m.core
  colors_in_law =
      sym (back_in (image_of m) size) ∙ ap (drop 512) (values_back m t h) ∙ rest_of_values m t h
      ∙ ap (λ (l : List ℕ). l ++ field_values m.core) (sym (channels_append m.background m.sprites))

  pub color_read : (k : ℕ) → k < 64 → color_in (image_of m) k ≡ get_or colors k (pan.channels 0)
  color_read k b =
      let l = image_of m in
      let n : k < length colors = omega (arith, many) in
      let r = channel l size (k * 3) (color_place k) (omega arith) (omega arith) in
      let g = channel l size (suc (k * 3)) (color_place k + 5) (omega arith) (omega arith) in
      let u = channel l size (suc (suc (k * 3))) (color_place k + 10) (omega arith) (omega arith) in
      rw (r, g, u, colors_in_law, red_at (field_values m.core) colors k (pan.channels 0) n, green_at (field_values m.core) colors k (pan.channels 0) n, blue_at (field_values m.core) colors k (pan.channels 0) n)

  pub color_image : (k : ℕ) → k < 64 → (c : Color) → in_range c ≡ true → (b s : List Color) → b ++ s ≡ set colors k c
      → color_put (image_of m) k c ≡ image_of (record { oam = m.oam; page = m.page; background = b; sprites = s; core = m.core })
  unfolding image_of values heads
  color_image k z c r b s e =
      let l = image_of m in
      let below = (state_back m t h).1.0 in
      let p = put_in l size below k z c r in
      let n : length (color_put l k c) ≡ image_len = p.size ∙ size in
      sym (image_of_values (color_put l k c) n p.below)
      ∙ ap (repacked widths (eights image_len))
      (values_number (color_put l k c) n
      ∙ joined
      (ap (unpacked (eights 512)) p.before ∙ sym (heads_in l size) ∙ ap (take 512) (values_back m t h) ∙ bytes_of_values m t h)
      (p.fields
      ∙ ap (λ (v : List ℕ). set (set (set v (k * 3) c.red) (suc (k * 3)) c.green) (suc (suc (k * 3))) c.blue) colors_in_law
      ∙ three_set (field_values m.core) colors k c (omega (arith, many))
      ∙ ap (λ (v : List Color). channels v ++ field_values m.core) (sym e)
      ∙ ap (λ (v : List ℕ). v ++ field_values m.core) (channels_append b s)))
