-- The laws that the functions' proofs cite: bytes and the number that they make, and the records of what is left of a log, one step further and at its end.
-- Of the layout they know that a form's width is a numeral (`wholes_more`, `wholes_none`), `number_below` and `fields_number`: a case for each form, and no more.
use mathlib.Core.Bool.{Bool, true, false, ◌&&◌}
use mathlib.Core.Logic.{◌⊎◌, inl, inr}
use mathlib.Core.Path.{◌≡◌, refl, ap, sym, ◌∙◌}
use mathlib.Core.List.{List, [], ◌∷◌, ◌++◌, append_assoc}
use Prim.Native.Nat.{ℕ, zero, suc, ◌+◌, ◌-◌, ◌*◌, ◌/◌, ◌%◌, ◌≤◌, ◌<◌}
use native.Mathlib.Decide.{dec_lt}
use native.Mathlib.Omega.{arith}
use lib.Arith.{digits_div, digits_mod}
use lib.Dec.{eqb}
use lib.ListN.{length, get_or, take, drop, set, length-append, length-drop}
use Rattle.std.specs.Int.{from_be_bytes, to_be_bytes, w32}
use lib.Seq.{take_at, drop_at, drop-drop, length-take-le}
use borrow.Author.Tests.{lt-ltb, ltb-true, ne_eqb}
use Rattle.rules.proofs.Tests.{both_true}
use Rattle.savelog.specs.Log.{Form, Three, Four, Rec, address_end, width_of, end_of, spare_of, bytes_of, number_from, record_number, record_bytes, fields_of, record_of, stored, first_records, records_by, sound_record, all_sound, apply_all, one_of, save_lengths, save_limit}

-- k bytes make the numbers below `bytes_end k`
abbrev pub bytes_end : ℕ → ℕ
bytes_end zero = 1
bytes_end (suc k) = bytes_end k * 256

-- the number that a record's bytes make
pub three_bytes : (l : List ℕ) → length l ≡ 3 → from_be_bytes w32 (0 ∷ get_or l 0 0 ∷ get_or l 1 0 ∷ get_or l 2 0 ∷ []) ≡ number_from 0 l
unfolding number_from
three_bytes (a ∷ b ∷ d ∷ []) e = omega arith
three_bytes l e = absurd (omega arith)

pub four_bytes : (l : List ℕ) → length l ≡ 4 → from_be_bytes w32 (get_or l 0 0 ∷ get_or l 1 0 ∷ get_or l 2 0 ∷ get_or l 3 0 ∷ []) ≡ number_from 0 l
unfolding number_from
four_bytes (a ∷ b ∷ d ∷ f ∷ []) e = omega arith
four_bytes l e = absurd (omega arith)

-- a number's bytes are the last of its four
pub last_bytes : (k n : ℕ) → k ≤ 4 → drop (4 - k) (to_be_bytes w32 n) ≡ bytes_of k n
unfolding bytes_of
last_bytes zero n h = refl
last_bytes (suc zero) n h = refl
last_bytes (suc (suc zero)) n h = refl
last_bytes (suc (suc (suc zero))) n h = let e : n / 256 / 256 ≡ n / 65536 = omega arith in rw e
last_bytes (suc (suc (suc (suc zero)))) n h =
    let e : n / 256 / 256 ≡ n / 65536 = omega arith in
    let f : n / 65536 / 256 ≡ n / 16777216 = omega arith in
    rw (e, f)
last_bytes (suc (suc (suc (suc (suc k))))) n h = absurd (omega arith)

-- a number's bytes in their place
abbrev pub placed : List ℕ → ℕ → ℕ → ℕ → List ℕ
placed l i k n = take i l ++ bytes_of k n ++ drop (i + k) l

pub put_place : (l : List ℕ) (o w n : ℕ) {p : List ℕ} → o + w ≤ length l → p ≡ bytes_of (length (take (o + w - o) (drop o l))) n
    → take o l ++ (p ++ drop (o + w - o) (drop o l)) ≡ placed l o w n
put_place l o w n {p} h e =
    let k : o + w - o ≡ w = omega arith in
    let j : length (take w (drop o l)) ≡ w = length-take-le w (drop o l) (rw length-drop (omega (arith, h))) in
    let q : p ≡ bytes_of w n = rw (k, j) at e in
    rw (k, q, drop-drop w o l) (sym (append_assoc (take o l) (bytes_of w n) (drop (o + w) l)))

pub length_bytes : (k n : ℕ) → length (bytes_of k n) ≡ k
unfolding bytes_of
length_bytes zero n = refl
length_bytes (suc k) n = let e : k + 1 ≡ suc k = omega arith in rw (length-append (bytes_of k (n / 256)) (n % 256 ∷ []), length_bytes k (n / 256), e)

number_last : (n : ℕ) (bs : List ℕ) (b : ℕ) → number_from n (bs ++ b ∷ []) ≡ number_from n bs * 256 + b
unfolding number_from
number_last n [] b = refl
number_last n (c ∷ bs) b = number_last (n * 256 + c) bs b

-- a number is read back from its bytes
number_bytes : (k n : ℕ) → n < bytes_end k → number_from 0 (bytes_of k n) ≡ n
unfolding bytes_of number_from
number_bytes zero n h = omega arith
number_bytes (suc k) n h =
    number_last 0 (bytes_of k (n / 256)) (n % 256)
    ∙ ap (λ (m : ℕ). m * 256 + n % 256) (number_bytes k (n / 256) (omega arith))
    ∙ omega arith

-- the layout: a record's number takes the form's bytes, and has the fields that it was made of
number_below : (f : Form) (a v : ℕ) → v < 256 → a < end_of f → record_number f a v < bytes_end (width_of f)
unfolding record_number
number_below Three a v h k = omega arith
number_below Four a v h k = omega arith

some_spare : (f : Form) → 0 < spare_of f
some_spare Three = omega arith
some_spare Four = omega arith

fields_number : (f : Form) (a v : ℕ) → v < 256 → a < end_of f → fields_of f (record_number f a v) ≡ stored a v
unfolding record_number fields_of
fields_number f a v h k =
    let b = (1 * end_of f + a) * 256 + v in
    let e : b * spare_of f + 0 ≡ b * spare_of f = omega arith in
    let s : b * spare_of f / spare_of f ≡ b = rw e at (digits_div b {m = spare_of f} {r = 0} (some_spare f)) in
    let o : b * spare_of f % spare_of f ≡ 0 = rw e at (digits_mod b {m = spare_of f} {r = 0} (some_spare f)) in
    let q : b / 256 ≡ 1 * end_of f + a = omega arith in
    let z : b % 256 ≡ v = omega arith in
    rw (s, o, q, z, digits_div 1 {m = end_of f} {r = a} k, digits_mod 1 {m = end_of f} {r = a} k)

pub record_length : (f : Form) (a v : ℕ) → length (record_bytes f a v) ≡ width_of f
unfolding record_bytes
record_length f a v = length_bytes (width_of f) (record_number f a v)

-- what is written is read back
pub round : (f : Form) (a v : ℕ) → v < 256 → a < end_of f → record_of f (record_bytes f a v) ≡ stored a v
unfolding record_bytes
round f a v h k = ap (fields_of f) (number_bytes (width_of f) (record_number f a v) (number_below f a v h k)) ∙ fields_number f a v h k

-- and is sound where its address is in the save
pub stored_sound : (ram a v : ℕ) → a < ram → sound_record ram (stored a v) ≡ true
stored_sound ram a v h = lt-ltb a ram h

pub some_width : (f : Form) → 0 < width_of f
some_width Three = omega arith
some_width Four = omega arith

pub width_most : (f : Form) → width_of f ≤ 4
width_most Three = omega arith
width_most Four = omega arith

-- how many whole records there are: one more with one more, none in less than one
pub wholes_more : (f : Form) (n : ℕ) → width_of f ≤ n → n / width_of f ≡ suc ((n - width_of f) / width_of f)
wholes_more Three n h = omega arith
wholes_more Four n h = omega arith

pub wholes_none : (f : Form) (n : ℕ) → n < width_of f → n / width_of f ≡ 0
wholes_none Three n h = omega arith
wholes_none Four n h = omega arith

-- a log of at least one record has its first record first
pub records_cons : (f : Form) (l : List ℕ) → width_of f ≤ length l → records_by f l ≡ record_of f (take (width_of f) l) ∷ records_by f (drop (width_of f) l)
unfolding records_by first_records
records_cons f l h =
    let e : length l / width_of f ≡ suc (length (drop (width_of f) l) / width_of f) = rw length-drop (wholes_more f (length l) h) in
    rw e

-- a log of less than a record has none
pub records_none : (f : Form) (l : List ℕ) → length l < width_of f → records_by f l ≡ []
unfolding records_by first_records
records_none f l h = rw (wholes_none f (length l) h)

pub records_step : (f : Form) (l : List ℕ) (i : ℕ) → i + width_of f ≤ length l
    → records_by f (drop i l) ≡ record_of f (take (width_of f) (drop i l)) ∷ records_by f (drop (i + width_of f) l)
records_step f l i h =
    let k : width_of f ≤ length (drop i l) = rw length-drop (omega arith) in
    rw (records_cons f (drop i l) k, drop-drop (width_of f) i l)

pub records_end : (f : Form) (l : List ℕ) (i : ℕ) → length l - i < width_of f → records_by f (drop i l) ≡ []
records_end f l i h = records_none f (drop i l) (rw length-drop h)

-- a log that goes on after its first record
module _ (f : Form) {r : Rec} {l : List ℕ} (b m : List ℕ) (s : l ≡ b ++ m) (n : length b ≡ width_of f) (e : r ≡ record_of f b) where
  pub turn : records_by f l ≡ r ∷ records_by f m
  turn =
      let h : width_of f ≤ length (b ++ m) = rw length-append (omega (arith, n)) in
      ap (records_by f) s
      ∙ records_cons f (b ++ m) h
      ∙ rw (take_at b m (width_of f) n, drop_at b m (width_of f) n, e)

  sound_turn : (ram : ℕ) → all_sound ram (records_by f l) ≡ (sound_record ram r && all_sound ram (records_by f m))
  unfolding all_sound
  sound_turn ram = ap (all_sound ram) turn

  -- the test stops at a damaged record, and goes on past a sound one
  pub stops : (ram : ℕ) {t : Bool} → t ≡ sound_record ram r → t ≡ false → false ≡ all_sound ram (records_by f l)
  stops ram q n = rw (sound_turn ram, ← q, n)

  pub goes : (ram : ℕ) {t : Bool} → t ≡ sound_record ram r → t ≡ true → all_sound ram (records_by f l) ≡ all_sound ram (records_by f m)
  goes ram q n = rw (sound_turn ram, ← q, n)

  -- one record of a sound log: its address is in the save, and the rest is sound
  pub sound_next : (ram : ℕ) → all_sound ram (records_by f l) ≡ true → (r.address < ram) × (all_sound ram (records_by f m) ≡ true)
  sound_next ram q =
      let t = both_true (sound_record ram r) _ (sym (sound_turn ram) ∙ q) in
      let u = both_true (eqb r.mark 1) _ t.0 in
      let w = both_true (eqb r.spare 0) _ u.1 in
      (ltb-true _ ram w.1, t.1)

  pub applied : (s : List ℕ) → apply_all s (records_by f l) ≡ apply_all (set s r.address r.value) (records_by f m)
  unfolding apply_all
  applied s = ap (apply_all s) turn

-- and one that doesn't
pub all_sound_end : (f : Form) (ram : ℕ) (l : List ℕ) → length l < width_of f → all_sound ram (records_by f l) ≡ true
unfolding all_sound
all_sound_end f ram l h = ap (all_sound ram) (records_none f l h)

pub apply_all_end : (f : Form) (s l : List ℕ) → length l < width_of f → apply_all s (records_by f l) ≡ s
unfolding apply_all
apply_all_end f s l h = ap (apply_all s) (records_none f l h)

-- a `match` on the lengths, as the list of them has it
pub one_of_law : (n : ℕ) → (n ≡ 0) ⊎ ((n ≡ 512) ⊎ ((n ≡ 8192) ⊎ ((n ≡ 32768) ⊎ (n ≡ save_limit)))) → one_of n save_lengths ≡ true
unfolding one_of save_lengths
one_of_law n (inl e) = rw e
one_of_law n (inr (inl e)) = rw e
one_of_law n (inr (inr (inl e))) = rw e
one_of_law n (inr (inr (inr (inl e)))) = rw e
one_of_law n (inr (inr (inr (inr e)))) = rw e

pub none_of : (n : ℕ) → ((n ≡ 0) ⊎ ((n ≡ 512) ⊎ ((n ≡ 8192) ⊎ ((n ≡ 32768) ⊎ (n ≡ save_limit)))) → ⊥) → one_of n save_lengths ≡ false
unfolding one_of save_lengths
none_of n h =
    rw (
      ne_eqb n 0 (λ e. h (inl e)),
      ne_eqb n 512 (λ e. h (inr (inl e))),
      ne_eqb n 8192 (λ e. h (inr (inr (inl e)))),
      ne_eqb n 32768 (λ e. h (inr (inr (inr (inl e))))),
      ne_eqb n save_limit (λ e. h (inr (inr (inr (inr e))))),
    )

-- every address of a save that recovery takes fits a record
too_long : (n : ℕ) → address_end < n → (n ≡ 0) ⊎ ((n ≡ 512) ⊎ ((n ≡ 8192) ⊎ ((n ≡ 32768) ⊎ (n ≡ save_limit)))) → ⊥
too_long n h (inl e) = omega arith
too_long n h (inr (inl e)) = omega arith
too_long n h (inr (inr (inl e))) = omega arith
too_long n h (inr (inr (inr (inl e)))) = omega arith
too_long n h (inr (inr (inr (inr e)))) = omega arith

pub save_within : (n : ℕ) → one_of n save_lengths ≡ true → n ≤ address_end
save_within n e = by_test (dec_lt address_end n)
  where
    by_test : Dec (address_end < n) → n ≤ address_end
    by_test (yes h) = let f = none_of n (too_long n h) in let z : ◌≡◌ {A = Bool} true false = sym e ∙ f in let y : ◌≡◌ {A = ℕ} 0 1 = cc in absurd (omega arith)
    by_test (no f) = omega (arith, f)
