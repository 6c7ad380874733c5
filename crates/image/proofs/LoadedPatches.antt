-- The laws of proofs/PatchLaws.antt for an image that loads, whose state nobody need have made: what the types say holds of it (`loaded_typed`).
use mathlib.Core.Bool.{true}
use mathlib.Core.Path.{◌≡◌, sym, ap, ◌∙◌}
use mathlib.Core.List.{List, [], ◌∷◌}
use Prim.Native.Nat.{ℕ, ◌+◌, ◌^◌, ◌<◌, ◌≤◌}
use native.Mathlib.Omega.{arith}
use lib.ListN.{length, take, drop, length-drop}
use lib.Seq.{length-take-le}
use mir.Syntax.{w32}
use mir.Facts.{sfits_to_z}
use Rattle.numbers.specs.Numbers.{done}
use Rattle.packing.specs.Packing.{Below, Fit, unpacked, repacked, eights, fives}
use Rattle.packing.proofs.Laws.{below_take, below_drop, fit_at, unpack_fit}
use Rattle.places.specs.Places.{number}
use Rattle.palette.specs.declared.Color.{Color}
use Rattle.mbc.specs.declared.mbc.Mapper.{Mapper}
use Rattle.memory.specs.World.{with_mapper, with_used}
use Rattle.image.specs.Layout.{image_len, field_widths, typed_fields, picked, image_of}
use Rattle.image.specs.Load.{at, colors_of, storable, state_of, load_call}
use Rattle.image.specs.Laws.{Typed}
use Rattle.image.specs.Patches.{used_put, mapping_put}
use Rattle.image.proofs.ColorLaws.{channels_length, channels_colors}
use Rattle.image.proofs.Parts.{repacked_length}
use Rattle.image.proofs.FieldLaws.{fields_number}
use Rattle.image.proofs.LoadLaws.{made, state_read}
use Rattle.image.proofs.OpenLaws.{load_length, load_state, load_storable, load_image}
use Rattle.image.proofs.PatchLaws.{Bytes, used_image, mapping_image}

colors_length : (l : List ℕ) → length l ≡ 96 → length (colors_of l) ≡ 32
colors_length l h = omega (arith, channels_length (colors_of l), ap length (channels_colors 32 l h))

picked_fit : (ks ws fs : List ℕ) → Fit ws fs → Fit (picked ks ws) (picked ks fs)
picked_fit [] ws fs f = omega arith
picked_fit (k ∷ ks) ws fs f = (fit_at ws fs k f, picked_fit ks ws fs f)

made_typed : (o p : List ℕ) (b s : List Color) (n : ℕ) → Bytes o → Bytes p → length b ≡ 32 → length s ≡ 32
    → Typed (made o p b s (unpacked field_widths n))
made_typed o p b s n ho hp hb hs =
    let fs = unpacked field_widths n in
    let f : (k : ℕ) → at fs k < 2 ^ at field_widths k = λ k. fit_at field_widths fs k (unpack_fit field_widths n) in
    record {
      oam = ho;
      page = hp;
      background = hb;
      sprites = hs;
      numbers = picked_fit typed_fields field_widths fs (unpack_fit field_widths n);
      delay = sfits_to_z {w = w32} (record { fits = f 16 });
      counter = sfits_to_z {w = w32} (record { fits = f 17 });
      aux = sfits_to_z {w = w32} (record { fits = f 18 });
      window = sfits_to_z {w = w32} (record { fits = f 19 });
    }

module _ (l : List ℕ) (size : length l ≡ image_len) (below : Below 256 l) where
  part_bytes : (k : ℕ) → k + 256 ≤ image_len → Bytes (take 256 (drop k l))
  part_bytes k h = (
    length-take-le 256 (drop k l) (rw length-drop (omega arith)),
    below_take 256 256 (drop k l) (omega arith) (below_drop k 256 l below),
  )

  state_typed : Typed (state_of l)
  state_typed =
      let b = repacked (eights 60) (fives 96) (take 60 (drop 512 l)) in
      let s = repacked (eights 60) (fives 96) (take 60 (drop 572 l)) in
      let e = state_read l size below ∙ ap (made (take 256 (drop 0 l)) (take 256 (drop 256 l)) (colors_of b) (colors_of s)) (fields_number l size) in
      rw e
      (made_typed (take 256 (drop 0 l)) (take 256 (drop 256 l)) (colors_of b) (colors_of s) (number l)
      (part_bytes 0 (omega arith)) (part_bytes 256 (omega arith))
      (colors_length b (repacked_length (eights 60) (fives 96) (take 60 (drop 512 l))))
      (colors_length s (repacked_length (eights 60) (fives 96) (take 60 (drop 572 l)))))

module _ (l : List ℕ) (below : Below 256 l) (h : (load_call l).number ≡ done) where
  pub loaded_typed : Typed (load_call l).state
  loaded_typed = rw (load_state l h) (state_typed l (load_length l h) below)

  pub loaded_storable : storable (load_call l).state ≡ true
  loaded_storable = load_storable l h

  pub loaded_used : (u : ℕ) → storable (with_used (load_call l).state u) ≡ true → used_put l u ≡ image_of (with_used (load_call l).state u)
  loaded_used u k =
      ap (λ (x : List ℕ). used_put x u) (sym (load_image l h below)) ∙ used_image (load_call l).state loaded_typed loaded_storable u k

  pub loaded_mapping : (p : Mapper) (u : ℕ) → storable (with_used (with_mapper (load_call l).state p) u) ≡ true
      → mapping_put l p u ≡ image_of (with_used (with_mapper (load_call l).state p) u)
  loaded_mapping p u k =
      ap (λ (x : List ℕ). mapping_put x p u) (sym (load_image l h below)) ∙ mapping_image (load_call l).state loaded_typed loaded_storable p u k
