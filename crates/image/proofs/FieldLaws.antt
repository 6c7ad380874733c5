-- The fields of an image are those at their places; fields put in an image are set in the list of its fields, and the rest stays. No width and no place
-- of a field is named here.
use mathlib.Core.Path.{◌≡◌, refl, sym, ap, ◌∙◌}
use mathlib.Core.List.{List, ◌++◌, append_assoc}
use Prim.Native.Nat.{ℕ, ◌/◌, ◌^◌}
use native.Mathlib.Omega.{arith}
use lib.ListN.{length, take}
use lib.Seq.{take_at, drop_at}
use Rattle.packing.specs.Packing.{Below, bits, packed, unpacked, repacked, eights, fives}
use Rattle.packing.proofs.Laws.{unpack_length, unpack_append, below_fit}
use Rattle.places.specs.Places.{number, set_all}
use Rattle.places.proofs.Laws.{fields_from_law}
use Rattle.places.proofs.Puts.{Put, put_fields_law}
use Rattle.image.specs.Layout.{image_len, field_widths, widths}
use Rattle.image.specs.Load.{all_fields_in, values_of}
use Rattle.image.specs.Patches.{front, fields, put, Fits}
use Rattle.image.proofs.Parts.{repacked_back, joined}

-- the widths before the fields'
abbrev others : List ℕ
others = eights 512 ++ fives 192

above : ℕ → List ℕ
above n = unpacked others (n / 2 ^ bits field_widths)

above_length : (n : ℕ) → length (above n) ≡ 704
unfolding above
above_length n = unpack_length others (n / 2 ^ bits field_widths)

parts : (n : ℕ) → unpacked widths n ≡ above n ++ unpacked field_widths n
unfolding widths above
parts n = ap (λ (ws : List ℕ). unpacked ws n) (sym (append_assoc (eights 512) (fives 192) field_widths)) ∙ unpack_append others field_widths n

module _ (l : List ℕ) (size : length l ≡ image_len) where
  values_number : values_of l ≡ above (number l) ++ unpacked field_widths (number l)
  unfolding values_of repacked number
  values_number = ap (λ (i : ℕ). unpacked widths (packed (eights i) l)) (sym size) ∙ parts (number l)

  above_in : take 704 (values_of l) ≡ above (number l)
  above_in = ap (take 704) values_number ∙ take_at (above (number l)) (unpacked field_widths (number l)) 704 (above_length (number l))

  number_in : all_fields_in (values_of l) ≡ unpacked field_widths (number l)
  number_in = ap all_fields_in values_number ∙ drop_at (above (number l)) (unpacked field_widths (number l)) 704 (above_length (number l))

  pub fields_number : fields l ≡ unpacked field_widths (number l)
  fields_number = sym (fields_from_law l front field_widths (omega arith))

  pub fields_in : all_fields_in (values_of l) ≡ fields l
  fields_in = number_in ∙ sym fields_number

  -- an image is that of its values
  pub image_of_values : Below 256 l → repacked widths (eights image_len) (values_of l) ≡ l
  unfolding values_of widths
  image_of_values below = repacked_back (eights image_len) widths l refl (below_fit image_len 8 l size below)

  module _ (below : Below 256 l) (ps : List (ℕ × ℕ)) (f : Fits ps) where
    pub put_in : Put field_widths l (put ps l) (set_all ps (unpacked field_widths (number l)))
    put_in = put_fields_law front field_widths l ps below (omega arith) f

    pub put_size : length (put ps l) ≡ image_len
    put_size = put_in.size ∙ size

-- the values of an image with fields put
pub values_put : (l : List ℕ) → length l ≡ image_len → Below 256 l → (ps : List (ℕ × ℕ)) → Fits ps
    → values_of (put ps l) ≡ take 704 (values_of l) ++ set_all ps (all_fields_in (values_of l))
unfolding above
values_put l size below ps f =
    let p = put_in l size below ps f in
    values_number (put ps l) (put_size l size below ps f)
    ∙ joined (ap (unpacked others) p.before ∙ sym (above_in l size)) (p.fields ∙ ap (set_all ps) (sym (number_in l size)))

-- For the code's reads, group by group
