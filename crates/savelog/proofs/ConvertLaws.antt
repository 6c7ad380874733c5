-- The laws of specs/ConvertLaws.antt. A record that was read is the record of a store within its form; so what is written of it reads the same.
use mathlib.Core.Bool.{Bool, true, false, cond}
use mathlib.Core.Path.{◌≡◌, refl, ap, sym, ◌∙◌}
use mathlib.Core.List.{List, [], ◌∷◌, ◌++◌, append_assoc, append-nil}
use Prim.Native.Nat.{ℕ, zero, suc, ◌+◌, ◌*◌, ◌/◌, ◌%◌, ◌≤◌, ◌<◌}
use native.Mathlib.Omega.{arith}
use lib.Dec.{eqb, leb}
use lib.ListN.{length, take, drop, length-append, length-drop, take-append-drop}
use lib.Seq.{take_at, take_all, take-add, drop_at, length-take-le}
use borrow.Author.Tests.{ltb-true, lt-ltb, eqb-true, ne_eqb, le-leb}
use Rattle.numbers.specs.Numbers.{done, wrong_length, damaged}
use Rattle.rules.proofs.Tests.{both_true}
use Rattle.savelog.specs.Log.{Form, Three, Four, Rec, width_of, end_of, log_limit, save_limit, save_lengths, bytes_of, number_from, record_number, record_bytes, fields_of, record_of, stored, first_records, records_by, sound_record, all_sound, one_of, lengths_fit, recovery}
use Rattle.savelog.specs.Convert.{Conversion, undamaged, below, bytes_by, length_by, room, converted, conversion, old_save_lengths, old_recovery}
use Rattle.savelog.specs.ConvertLaws.{Bytes, none, more, new_log, OldCorner, SameRecords, ThereAndBack, BackExactly, LastDropped, InParts, PastStays, RecoversAsBefore}
use Rattle.savelog.proofs.Laws.{some_width, record_length, records_none}
use Rattle.savelog.proofs.Use.{record_first}
use Rattle.savelog.specs.Laws.{LastIgnored}
use Rattle.savelog.proofs.Prefix.{length_records, records_take, records_append}
use Rattle.savelog.proofs.Converts.{Roomy, roomy, result, by_sound}

-- records of stores, with addresses below an end and bytes as values
data Stores (end : ℕ) : List Rec → Type 0 where
  no_more : Stores end []
  one : {a v : ℕ} {rs : List Rec} → a < end → v < 256 → Stores end rs → Stores end (stored a v ∷ rs)

-- what is read is one of them, where it is sound
value_bound : (f : Form) (n : ℕ) → (fields_of f n).value < 256
unfolding fields_of
value_bound f n = omega arith

as_stored : (r : Rec) → r.mark ≡ 1 → r.spare ≡ 0 → r ≡ stored r.address r.value
as_stored r m s = rw (← m, ← s)

stores_first : (f : Form) (end k : ℕ) (l : List ℕ) → all_sound end (first_records f k l) ≡ true → Stores end (first_records f k l)
unfolding first_records all_sound
stores_first f end zero l h = no_more
stores_first f end (suc k) l h =
    let r = record_of f (take (width_of f) l) in
    let t = both_true (sound_record end r) _ h in
    let u = both_true (eqb r.mark 1) _ t.0 in
    let w = both_true (eqb r.spare 0) _ u.1 in
    rw (as_stored r (eqb-true _ _ u.0) (eqb-true _ _ w.0))
    (one (ltb-true _ end w.1) (value_bound f (number_from 0 (take (width_of f) l))) (stores_first f end k (drop (width_of f) l) t.1))

stores : (f : Form) (end : ℕ) (l : List ℕ) → all_sound end (records_by f l) ≡ true → Stores end (records_by f l)
unfolding records_by
stores f end l h = stores_first f end (length l / width_of f) l h

-- written in a form that has room for their addresses they are read back
read_back : (f : Form) {rs : List Rec} → Stores (end_of f) rs → records_by f (bytes_by f rs) ≡ rs
unfolding bytes_by
read_back f no_more = records_none f [] (some_width f)
read_back f (one {a} {v} {rs} h k s) =
    record_first f a v (bytes_by f rs) k h ∙ ap (λ (qs : List Rec). stored a v ∷ qs) (read_back f s)

-- and take their length
times_more : (f : Form) (n : ℕ) → width_of f + n * width_of f ≡ suc n * width_of f
times_more Three n = omega arith
times_more Four n = omega arith

times_none : (f : Form) → 0 * width_of f ≡ 0
times_none Three = omega arith
times_none Four = omega arith

pub length_bytes_by : (f : Form) (rs : List Rec) → length (bytes_by f rs) ≡ length rs * width_of f
unfolding bytes_by
length_bytes_by f [] = sym (times_none f)
length_bytes_by f (r ∷ rs) = rw (length-append, record_length f r.address r.value, length_bytes_by f rs) (times_more f (length rs))

written_length : (f t : Form) (l : List ℕ) → length (bytes_by t (records_by f l)) ≡ length_by f t (length l)
written_length f t l = length_bytes_by t (records_by f l) ∙ ap (λ (n : ℕ). n * width_of t) (length_records f l)

-- what a conversion that is done has met, and what it gives
record Done (f t : Form) (s l : List ℕ) : Type 0 where
  roomy : Roomy f t (length s) (length l)
  sound : all_sound (end_of t) (records_by f s) ≡ true
  is : conversion f t s l ≡ converted done (length_by f t (length s)) (result f t s l)

done_by : (a b : Bool) (n : ℕ) (u x : List ℕ)
    → (cond a (cond b (converted done n u) (converted damaged 0 x)) (converted wrong_length 0 x)).number ≡ done → (a ≡ true) × (b ≡ true)
done_by true true n u x h = (refl, refl)
done_by true false n u x h = absurd (omega arith)
done_by false b n u x h = absurd (omega arith)

when_done : (f t : Form) (s l : List ℕ) → (conversion f t s l).number ≡ done → Done f t s l
when_done f t s l h =
    let b = by_sound f t s l in
    let p = done_by (room f t (length s) (length l)) (all_sound (end_of t) (records_by f s)) _ (result f t s l) l (rw b at h) in
    record { roomy = roomy f t (length s) (length l) p.0; sound = p.1; is = b ∙ rw (p.0, p.1) }

-- the new log is the records' bytes
new_log_law : (f t : Form) (s l : List ℕ) → (conversion f t s l).number ≡ done → new_log f t s l ≡ bytes_by t (records_by f s)
new_log_law f t s l h =
    rw (when_done f t s l h).is
    (take_at (bytes_by t (records_by f s)) (drop (length_by f t (length s)) l) (length_by f t (length s)) (written_length f t s))

pub same_records : SameRecords
same_records f t s l h =
    ap (records_by t) (new_log_law f t s l h) ∙ read_back t (stores f (end_of t) s (when_done f t s l h).sound)

pub old_corner : OldCorner
unfolding conversion room undamaged below records_by first_records fields_of number_from bytes_by record_bytes record_number bytes_of
old_corner = refl

-- refused or done, by the two tests
abbrev PastOf : List ℕ → Conversion → Type 0
PastOf l c =
    (length c.target ≡ length l)
    × (drop c.len c.target ≡ drop c.len l)
    × ((c.number ≡ done → ⊥) → (c.len ≡ 0) × (c.target ≡ l))

past_done : (f t : Form) (s l : List ℕ) → Roomy f t (length s) (length l)
    → PastOf l (converted done (length_by f t (length s)) (result f t s l))
past_done f t s l r =
    let e = written_length f t s in (
      rw (length-append, e, length-drop) (omega (arith, r.target)),
      drop_at (bytes_by t (records_by f s)) (drop (length_by f t (length s)) l) (length_by f t (length s)) e,
      λ n. absurd (n refl),
    )

past_by : (a b : Bool) (l : List ℕ) (n : ℕ) (u : List ℕ) → (a ≡ true → PastOf l (converted done n u))
    → PastOf l (cond a (cond b (converted done n u) (converted damaged 0 l)) (converted wrong_length 0 l))
past_by true true l n u h = h refl
past_by true false l n u h = (refl, refl, λ n. (refl, refl))
past_by false b l n u h = (refl, refl, λ n. (refl, refl))

pub past_stays : PastStays
past_stays f t s l =
    rw (by_sound f t s l)
    (past_by (room f t (length s) (length l)) (all_sound (end_of t) (records_by f s)) l _ (result f t s l)
    (λ e. past_done f t s l (roomy f t (length s) (length l) e)))

-- exactly when every address fits
number_by : (b : Bool) (n : ℕ) (u x : List ℕ) → (cond b (converted done n u) (converted damaged 0 x)).number ≡ done → b ≡ true
number_by true n u x h = refl
number_by false n u x h = absurd (omega arith)

has_room : (f t : Form) (s u : ℕ) → s ≤ log_limit → length_by f t s ≤ log_limit → length_by f t s ≤ u → room f t s u ≡ true
unfolding room
has_room f t s u h k m = rw (le-leb s log_limit h, le-leb (length_by f t s) log_limit k, le-leb (length_by f t s) u m)

pub back_exactly : BackExactly
unfolding conversion
back_exactly n o h k u =
    let g : length_by Four Three (length n) ≤ log_limit = omega arith in
    let r = has_room Four Three (length n) (length o) h g k in (
      λ d. number_by (below 32768 (records_by Four n)) _ _ o (rw (r, u) at d),
      λ b. rw (r, u, b),
    )

-- the whole records alone
whole_within : (f : Form) (n : ℕ) → length_by f f n ≤ n
whole_within Three n = omega arith
whole_within Four n = omega arith

whole_count : (f : Form) (n : ℕ) → length_by f f n / width_of f ≡ n / width_of f
whole_count Three n = omega arith
whole_count Four n = omega arith

whole_records : (f : Form) (l : List ℕ) → records_by f (take (length_by f f (length l)) l) ≡ records_by f l
whole_records f l =
    records_take f l (length_by f f (length l))
    ∙ take_all (length_by f f (length l) / width_of f) (records_by f l) (omega (arith, length_records f l, whole_count f (length l)))

pub last_dropped : LastDropped
unfolding conversion room
last_dropped f t l o h =
    let n = length_by f f (length l) in
    let e : length (take n l) ≡ n = length-take-le n l (whole_within f (length l)) in
    let k : length_by f t n ≡ length_by f t (length l) = ap (λ (q : ℕ). q * width_of t) (whole_count f (length l)) in
    let m : leb n log_limit ≡ true = le-leb n log_limit (omega (arith, whole_within f (length l))) in
    rw (whole_records f l, e, k, m, le-leb (length l) log_limit h)

pub last_ignored : LastIgnored
unfolding recovery lengths_fit
last_ignored s l h =
    let n = length_by Four Four (length l) in
    let e : length (take n l) ≡ n = length-take-le n l (whole_within Four (length l)) in
    let m : leb n log_limit ≡ true = le-leb n log_limit (omega (arith, whole_within Four (length l))) in
    rw (whole_records Four l, e, m, le-leb (length l) log_limit h)

whole_times : (f : Form) (k : ℕ) → k * width_of f % width_of f ≡ 0
whole_times Three k = omega arith
whole_times Four k = omega arith

pub in_parts : InParts
in_parts f l k h =
    let n = k * width_of f in
    sym (records_append f (take n l) (drop n l) (rw (length-take-le n l h) (whole_times f k))) ∙ ap (records_by f) (take-append-drop n l)

-- recovery: the same records, and lengths that both rules take or refuse
pub old_lengths : (n : ℕ) → (n ≡ save_limit → ⊥) → one_of n old_save_lengths ≡ one_of n save_lengths
unfolding one_of save_lengths old_save_lengths
old_lengths n h = rw (ne_eqb n save_limit h)

pub recovers_as_before : RecoversAsBefore
unfolding recovery old_recovery lengths_fit
recovers_as_before save o n h d =
    let w = when_done Three Four o n d in
    let e : length (new_log Three Four o n) ≡ length_by Three Four (length o) = ap length (new_log_law Three Four o n d) ∙ written_length Three Four o in
    rw (
      same_records Three Four o n d,
      old_lengths (length save) h,
      le-leb (length (new_log Three Four o n)) log_limit (rw e w.roomy.log),
      le-leb (length o) log_limit w.roomy.source,
    )

-- There and back. Bytes are read back from the number that they make,
bytes_of_law : (k n : ℕ) {bs : List ℕ} → Bytes bs → bytes_of (length bs + k) (number_from n bs) ≡ bytes_of k n ++ bs
unfolding bytes_of number_from
bytes_of_law k n none = let e : 0 + k ≡ k = omega arith in rw (e, append-nil (bytes_of k n))
bytes_of_law k n (more {b} {bs} h s) =
    let e : suc (length bs) + k ≡ length bs + suc k = omega arith in
    let q : (n * 256 + b) / 256 ≡ n = omega arith in
    let z : (n * 256 + b) % 256 ≡ b = omega arith in
    rw e (bytes_of_law (suc k) (n * 256 + b) s ∙ rw (q, z) (append_assoc (bytes_of k n) (b ∷ []) bs))

bytes_number : (k : ℕ) {bs : List ℕ} → Bytes bs → length bs ≡ k → bytes_of k (number_from 0 bs) ≡ bs
unfolding bytes_of
bytes_number k {bs} s e = let z : k ≡ length bs + 0 = omega (arith, e) in rw z (bytes_of_law 0 0 s)

-- the number from its fields, where it is no record of damage,
number_fields : (f : Form) (n : ℕ) → (fields_of f n).mark ≡ 1 → (fields_of f n).spare ≡ 0
    → record_number f (fields_of f n).address (fields_of f n).value ≡ n
unfolding record_number fields_of
number_fields Three n m s = omega (arith, m, s)
number_fields Four n m s = omega (arith, m, s)

bytes_take : (k : ℕ) {l : List ℕ} → Bytes l → Bytes (take k l)
bytes_take zero s = none
bytes_take (suc k) none = none
bytes_take (suc k) (more h s) = more h (bytes_take k s)

bytes_drop : (k : ℕ) {l : List ℕ} → Bytes l → Bytes (drop k l)
bytes_drop zero s = s
bytes_drop (suc k) none = none
bytes_drop (suc k) (more h s) = bytes_drop k s

-- so an undamaged log, read and written in its own form, is its whole records
rewritten : (f : Form) (k : ℕ) (l : List ℕ) → Bytes l → k * width_of f ≤ length l → undamaged (first_records f k l) ≡ true
    → bytes_by f (first_records f k l) ≡ take (k * width_of f) l
unfolding first_records undamaged bytes_by record_bytes
rewritten f zero l s h u = rw (times_none f)
rewritten f (suc k) l s h u =
    let w = width_of f in
    let e : suc k * w ≡ w + k * w = sym (times_more f k) in
    let m : w ≤ length l = omega (arith, h, e) in
    let t = both_true _ (undamaged (first_records f k (drop w l))) u in
    let d = both_true _ _ t.0 in
    let n = number_from 0 (take w l) in
    let g : k * w ≤ length (drop w l) = rw length-drop (omega (arith, h, e)) in
    let a = ap (bytes_of w) (number_fields f n (eqb-true _ _ d.0) (eqb-true _ _ d.1)) ∙ bytes_number w (bytes_take w s) (length-take-le w l m) in
    rw (a, rewritten f k (drop w l) (bytes_drop w s) g t.1, e) (sym (take-add w (k * w) l))

rewritten_log : (f : Form) (l : List ℕ) → Bytes l → undamaged (records_by f l) ≡ true → bytes_by f (records_by f l) ≡ take (length_by f f (length l)) l
unfolding records_by
rewritten_log f l s u = rewritten f (length l / width_of f) l s (whole_within f (length l)) u

-- every address that is read is below its form's end
address_bound : (f : Form) (n : ℕ) → (fields_of f n).address < end_of f
unfolding fields_of
address_bound Three n = omega arith
address_bound Four n = omega arith

below_first : (f : Form) (end : ℕ) → end_of f ≤ end → (k : ℕ) (l : List ℕ) → below end (first_records f k l) ≡ true
unfolding first_records below
below_first f end h zero l = refl
below_first f end h (suc k) l =
    let n = number_from 0 (take (width_of f) l) in
    rw (lt-ltb (fields_of f n).address end (omega (arith, h, address_bound f n)), below_first f end h k (drop (width_of f) l))

below_own : (f : Form) (end : ℕ) → end_of f ≤ end → (l : List ℕ) → below end (records_by f l) ≡ true
unfolding records_by
below_own f end h l = below_first f end h (length l / width_of f) l

is_done : (f t : Form) (s l : List ℕ) → room f t (length s) (length l) ≡ true → undamaged (records_by f s) ≡ true → below (end_of t) (records_by f s) ≡ true
    → conversion f t s l ≡ converted done (length_by f t (length s)) (result f t s l)
unfolding conversion
is_done f t s l r u b = rw (r, u, b)

pub there_and_back : ThereAndBack
there_and_back o n b s u c r q =
    let forth = is_done Three Four o n (has_room Three Four (length o) (length n) (omega arith) (omega arith) r) u (below_own Three _ (omega arith) o) in
    let d = ap (λ (x : Conversion). x.number) forth in
    let m = new_log Three Four o n in
    let e : length m ≡ length_by Three Four (length o) = ap length (new_log_law Three Four o n d) ∙ written_length Three Four o in
    let k : length_by Four Three (length m) ≡ length_by Three Three (length o) = rw e (omega arith) in
    let same = same_records Three Four o n d in
    let back =
    is_done Four Three m b
    (has_room Four Three (length m) (length b) (omega (arith, e)) (omega (arith, k)) (omega (arith, k, q)))
    (rw same u)
    (rw same (below_own Three _ (omega arith) o)) in
    (d, ap (λ (x : Conversion). x.len) forth, back ∙ rw (same, k, rewritten_log Three o s u))
