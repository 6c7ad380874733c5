-- An image changed in place is the image of the changed state. Fields that are put are set in the list of its fields (`image_put`: any fields, any
-- state); a byte of OAM or page stands before the rest.
use mathlib.Core.Bool.{true}
use mathlib.Core.Path.{◌≡◌, refl, sym, ap, ◌∙◌}
use mathlib.Core.List.{List, [], ◌∷◌, ◌++◌, append_assoc}
use Prim.Native.Nat.{ℕ, zero, suc, ◌+◌, ◌<◌}
use native.Mathlib.Nat.{zero-add, suc-add}
use native.Mathlib.Omega.{arith}
use lib.ListN.{length, take, drop, set, length-append, length-set}
use lib.Seq.{set-append_left}
use Rattle.packing.specs.Packing.{Below, bits, packed, repacked, eights, fives}
use Rattle.places.specs.Places.{put_at, set_all}
use Rattle.places.proofs.Puts.{put_below, puts_length, put_over, own, put_own, put_run}
use Rattle.mbc.specs.Mbc.{mapper_of, registers_of, sound}
use Rattle.mbc.specs.declared.held.Registers.{Registers}
use Rattle.mbc.specs.declared.mbc.Mapper.{Mapper}
use Rattle.mbc.proofs.RegisterLaws.{registers_of_mapper}
use Rattle.joypad.specs.declared.Controller.{Controller}
use Rattle.memory.specs.declared.Clock.{Clock}
use Rattle.memory.specs.declared.Core.{Core}
use Rattle.memory.specs.declared.Memory.{Memory}
use Rattle.memory.specs.World.{with_oam, with_page, with_core, with_joypad, with_clock, with_mapper, with_used}
use Rattle.memory.specs.Ranges.{palettes_in_range, state_in_range, in_range}
use Rattle.memory.proofs.Laws.{range_parts}
use Rattle.image.specs.Layout.{image_len, field_widths, used_field, widths, channels, field_values, values, image_of}
use Rattle.image.specs.Load.{at, registers_in, storable, values_of, all_fields_in}
use Rattle.image.specs.Laws.{Typed}
use Rattle.image.specs.Patches.{front, fields, put, Fits, Slim, numbers_fields, registers_fields, used_fields, used_put, mapping_fields, mapping_put, clock_fields, clock_put}
use Rattle.image.proofs.FieldLaws.{fields_number, image_of_values, put_in, put_size, values_put}
use Rattle.image.proofs.Parts.{field_len, joined}
use Rattle.image.proofs.StateLaws.{storable_state, storable_use, slim_registers, image_bytes}
use Rattle.image.proofs.Round.{state_back, values_back, fields_of_values, front_of_values}

-- a mapper's numbers: where they stand, their widths, and they

abbrev pub numbers_place : ℕ
numbers_place = front + bits (take 23 field_widths)

abbrev pub numbers_widths : List ℕ
numbers_widths = take 5 (drop 23 field_widths)

abbrev pub number_values : Registers → List ℕ
number_values r = r.rom ∷ r.ram ∷ r.mode ∷ r.enabled ∷ r.high ∷ []

abbrev pub Bytes : List ℕ → Type 0
Bytes l = (length l ≡ 256) × Below 256 l

-- what the types say, group by group
module _ {m : Memory} (t : Typed m) where
  pub joypad_bytes : (m.core.joypad.released < 256) × (m.core.joypad.state < 256)
  joypad_bytes = omega (arith, t.numbers)

  pub div_byte : m.core.clock.div < 256
  div_byte = omega (arith, t.numbers)

  pub hdma_words : (m.core.hdma.source < 65536) × (m.core.hdma.destination < 65536)
  hdma_words = omega (arith, t.numbers)

-- and of a state with other parts
pub typed_with : (m : Memory) → Typed m → (o p : List ℕ) (j : Controller) (c : Clock) (x : Mapper) (u : ℕ)
    → Bytes o → Bytes p → j.released < 256 → j.state < 256 → c.div < 256
    → Typed (with_used (with_mapper (with_clock (with_joypad (with_oam m o) j p) c p) x) u)
typed_with m t o p j c x u ho hp r s d =
    record {
      oam = ho;
      page = hp;
      background = t.background;
      sprites = t.sprites;
      numbers = omega (arith, t.numbers, r, s, d);
      delay = t.delay;
      counter = t.counter;
      aux = t.aux;
      window = t.window;
    }

-- Fields put

module _ (m : Memory) (t : Typed m) (h : storable m ≡ true) where
  pub image_put : (ps : List (ℕ × ℕ)) → Fits ps → (c : Core) → set_all ps (field_values m.core) ≡ field_values c → put ps (image_of m) ≡ image_of (with_core m c)
  unfolding image_of values
  image_put ps f c e =
      let l = image_of m in
      let b = state_back m t h in
      let v : values_of l ≡ values m = values_back m t h in
      let n : length (put ps l) ≡ image_len = put_size l b.0 b.1.0 ps f in
      sym (image_of_values (put ps l) n (put_in l b.0 b.1.0 ps f).below)
      ∙ ap (repacked widths (eights image_len))
      (values_put l b.0 b.1.0 ps f
      ∙ joined (ap (take 704) v ∙ front_of_values m t h) (ap (set_all ps) (ap all_fields_in v ∙ fields_of_values m t h) ∙ e)
      ∙ append_assoc (m.oam ++ m.page) (channels m.background ++ channels m.sprites) (field_values c))

  pub used_image : (u : ℕ) → storable (with_used m u) ≡ true → used_put (image_of m) u ≡ image_of (with_used m u)
  unfolding used_put
  used_image u k = let m' = with_used m u in image_put (used_fields u) (omega (arith, storable_use m' k)) m'.core refl

  pub mapping_image : (p : Mapper) (u : ℕ) → storable (with_used (with_mapper m p) u) ≡ true
      → mapping_put (image_of m) p u ≡ image_of (with_used (with_mapper m p) u)
  unfolding mapping_put
  mapping_image p u k =
      let m' = with_used (with_mapper m p) u in
      image_put (mapping_fields p u) (omega (arith, slim_registers m' k, storable_use m' k)) m'.core refl

  pub clock_image : (c : Clock) → c.div < 256 → storable (with_clock m c m.page) ≡ true → clock_put (image_of m) c ≡ image_of (with_clock m c m.page)
  unfolding clock_put
  clock_image c d k =
      let m' = with_clock m c m.page in
      image_put (clock_fields c) (omega (arith, d, (range_parts m' (storable_state m' k)).clock)) m'.core refl

pub slim : (m : Memory) → storable m ≡ true → Slim m.core.mapper
slim m h = slim_registers m h

-- A mapper put. Its numbers stand side by side, so they are put as one; and fields that are put as they are change nothing

module _ (l : List ℕ) (below : Below 256 l) where
  pub numbers_put : length l ≡ image_len → (r : Registers) → Fits (numbers_fields r) → (n : ℕ) → n ≡ packed numbers_widths (number_values r)
      → put_at l numbers_place (bits numbers_widths) n ≡ put (numbers_fields r) l
  numbers_put size r f n e =
      ap (put_at l numbers_place (bits numbers_widths)) e
      ∙ sym (put_run l below numbers_place numbers_widths (number_values r) f (omega arith))

  put_again : (ks : List ℕ) (ps : List (ℕ × ℕ)) → put (own (fields l) ks ++ ps) l ≡ put ps l
  put_again ks ps = put_own l below front field_widths ks ps

  -- the image's own mapper
  pub mapping_kept : (p : Mapper) (u : ℕ) → p ≡ mapper_of (registers_in (fields l)) → sound (registers_in (fields l)) ≡ true → mapping_put l p u ≡ used_put l u
  unfolding mapping_put used_put
  mapping_kept p u e s =
      ap (λ (r : Registers). put (registers_fields r ++ used_fields u) l) (ap registers_of e ∙ registers_of_mapper (registers_in (fields l)) s)
      ∙ put_again (20 ∷ 23 ∷ 24 ∷ 25 ∷ 26 ∷ 27 ∷ []) (used_fields u)

-- the image's own kind and log use
pub registers_put : (l : List ℕ) → Below 256 l → length l ≡ image_len → (r : Registers) → Fits (registers_fields r) → r.kind ≡ (registers_in (fields l)).kind
    → (p : Mapper) → r ≡ registers_of p → put (numbers_fields r) l ≡ mapping_put l p (at (fields l) used_field)
unfolding mapping_put
registers_put l below size r f e p i =
    let ps = numbers_fields r in
    let l' = put ps l in
    let u = at (fields l) used_field in
    let o = put_in l size below ps f.1 in
    let s : fields l' ≡ set_all ps (fields l) =
    fields_number l' (put_size l size below ps f.1) ∙ o.fields ∙ ap (set_all ps) (sym (fields_number l size)) in
    sym
    (ap (λ (x : Registers). put (registers_fields x ++ used_fields u) l) (sym i)
    ∙ ap (λ (k : ℕ). put ((20, k) ∷ (ps ++ used_fields u)) l) e ∙ put_again l below (20 ∷ []) (ps ++ used_fields u)
    ∙ ap (λ (fs : List ℕ). put (used_fields (at fs used_field)) l') (sym s) ∙ put_again l' o.below (used_field ∷ []) [])

-- the log use put over another
pub used_over : (l : List ℕ) → length l ≡ image_len → (p : Mapper) (u v : ℕ) → u < 65536 → used_put (mapping_put l p u) v ≡ mapping_put l p v
unfolding used_put mapping_put
used_over l size p u v h =
    let ps = registers_fields (registers_of p) in
    let n : length (put ps l) ≡ image_len = puts_length front field_widths ps l ∙ size in
    put_over (put ps l) (put_below _ _ _ _) (front + bits (take used_field field_widths)) _ u v (omega arith) h

-- A byte of OAM or page: the first 512 bytes are these

rest : Memory → List ℕ
rest m =
    (repacked (fives 96) (eights 60) (channels m.background) ++ repacked (fives 96) (eights 60) (channels m.sprites))
    ++ repacked field_widths (eights field_len) (field_values m.core)

image_rest : (m : Memory) → Typed m → storable m ≡ true → image_of m ≡ (m.oam ++ m.page) ++ rest m
unfolding rest
image_rest m t h = image_bytes m t h

module _ {A : Type 0} where
  set_append_right : (xs ys : List A) (i : ℕ) (v : A) → set (xs ++ ys) (length xs + i) v ≡ xs ++ set ys i v
  set_append_right [] ys i v = rw (zero-add i)
  set_append_right (x ∷ xs) ys i v = rw (suc-add (length xs) i, set_append_right xs ys i v)

  pub set_behind : (p l : List A) (o : ℕ) → length p ≡ o → (k : ℕ) (v : A) → set (p ++ l) (o + k) v ≡ p ++ set l k v
  set_behind p l o e k v = rw (← e) (set_append_right p l k v)

pub below_set : (k : ℕ) (l : List ℕ) (i v : ℕ) → Below k l → v < k → Below k (set l i v)
below_set k [] i v h b j = h j
below_set k (x ∷ l) zero v h b zero = b
below_set k (x ∷ l) zero v h b (suc j) = h (suc j)
below_set k (x ∷ l) (suc i) v h b zero = h 0
below_set k (x ∷ l) (suc i) v h b (suc j) = below_set k l i v (λ n. h (suc n)) b j

pub bytes_set : (l : List ℕ) (i v : ℕ) → Bytes l → v < 256 → Bytes (set l i v)
bytes_set l i v h b = (simp length-set h.0, below_set 256 l i v h.1 b)

pub typed_bytes : (m : Memory) → Typed m → (o p : List ℕ) → Bytes o → Bytes p → Typed (with_page (with_oam m o) p)
typed_bytes m t o p ho hp = typed_with m t o p m.core.joypad m.core.clock m.core.mapper m.core.used ho hp (joypad_bytes t).0 (joypad_bytes t).1 (div_byte t)

pub storable_bytes : (m : Memory) (o p : List ℕ) → storable (with_page (with_oam m o) p) ≡ storable m
unfolding storable in_range state_in_range palettes_in_range
storable_bytes m o p = refl

module _ (m : Memory) (t : Typed m) (h : storable m ≡ true) (i v : ℕ) (hi : i < 256) (hv : v < 256) where
  stored_left : (xs ys : List ℕ) → length xs ≡ 256 → set ((xs ++ ys) ++ rest m) i v ≡ (set xs i v ++ ys) ++ rest m
  stored_left xs ys e =
      let n : i < length xs = omega arith in
      let k : i < length (xs ++ ys) = rw (length-append xs ys) (omega arith) in
      rw (set-append_left (xs ++ ys) (rest m) i v k, set-append_left xs ys i v n)

  stored_right : (xs ys : List ℕ) → length xs ≡ 256 → length ys ≡ 256 → set ((xs ++ ys) ++ rest m) (256 + i) v ≡ (xs ++ set ys i v) ++ rest m
  stored_right xs ys e d =
      let k : 256 + i < length (xs ++ ys) = rw (length-append xs ys) (omega arith) in
      rw (set-append_left (xs ++ ys) (rest m) (256 + i) v k, set_behind xs ys 256 e i v)

  pub oam_image : image_of (with_oam m (set m.oam i v)) ≡ set (image_of m) i v
  unfolding rest
  oam_image =
      let o = set m.oam i v in
      image_rest (with_oam m o) (typed_bytes m t o m.page (bytes_set m.oam i v t.oam hv) t.page) (storable_bytes m o m.page ∙ h)
      ∙ sym (ap (λ (l : List ℕ). set l i v) (image_rest m t h) ∙ stored_left m.oam m.page t.oam.0)

  pub page_image : image_of (with_page m (set m.page i v)) ≡ set (image_of m) (256 + i) v
  unfolding rest
  page_image =
      let p = set m.page i v in
      image_rest (with_page m p) (typed_bytes m t m.oam p t.oam (bytes_set m.page i v t.page hv)) (storable_bytes m m.oam p ∙ h)
      ∙ sym (ap (λ (l : List ℕ). set l (256 + i) v) (image_rest m t h) ∙ stored_right m.oam m.page t.oam.0 t.page.0)
