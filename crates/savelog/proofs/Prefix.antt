-- What survives: the records of a joined and of a cut log, and recovery over a cut log, in one piece or copy by copy.
-- Each law on records goes by induction over `Whole`, a log taken apart record by record.
use mathlib.Core.Bool.{Bool, true, false, cond}
use mathlib.Core.Path.{◌≡◌, refl, ap, sym, ◌∙◌}
use mathlib.Core.List.{List, [], ◌∷◌, ◌++◌, append_assoc, append-nil}
use Prim.Native.Nat.{ℕ, zero, suc, ◌+◌, ◌-◌, ◌/◌, ◌%◌, ◌≤◌, ◌<◌}
use native.Mathlib.Decide.{dec_lt}
use native.Mathlib.Nat.{min-le_left, min-le_right}
use native.Mathlib.Omega.{arith}
use lib.Dec.{leb}
use lib.ListN.{length, take, drop, set, length-append, length-set, length-take, length-drop}
use lib.Seq.{take-nil, take-take, take-append-le, drop-append-le, take_at, length-take-le}
use borrow.Author.Tests.{leb-true, le-leb}
use Rattle.numbers.specs.Numbers.{done, wrong_length, damaged}
use Rattle.rules.proofs.Tests.{both_true}
use Rattle.savelog.specs.Log.{Form, Three, Four, Rec, width, address_end, width_of, bytes_of, record_number, record_bytes, stored, first_records, records_by, records, sound_record, all_sound, apply_all, save_lengths, log_limit, one_of, lengths_fit, outcome, recovery, appended, recover_all, joined, cut_copies}
use Rattle.savelog.specs.Laws.{Corner, AppendLaw, PrefixLaw, Copy, Copies, none, more, CopiesLaw}
use Rattle.savelog.proofs.Laws.{some_width, wholes_more, wholes_none, records_cons, records_none}
use Rattle.savelog.proofs.Use.{used_more, record_first}

-- a log is less than a record, or a record and a log
data Whole (f : Form) : List ℕ → Type 0 where
  short : {l : List ℕ} → length l < width_of f → Whole f l
  long : {l : List ℕ} → width_of f ≤ length l → Whole f (drop (width_of f) l) → Whole f l

step_whole : (f : Form) (l : List ℕ) → Dec (length l < width_of f) → (width_of f ≤ length l → Whole f (drop (width_of f) l)) → Whole f l
step_whole f l (yes s) g = short s
step_whole f l (no n) g = let h : width_of f ≤ length l = omega (arith, n) in long h (g h)

whole_within : (f : Form) (k : ℕ) (l : List ℕ) → length l ≤ k → Whole f l
whole_within f zero l h = short {l = l} (omega (arith, some_width f))
whole_within f (suc k) l h =
    step_whole f l (dec_lt (length l) (width_of f))
    (λ m. let g : length (drop (width_of f) l) ≤ k = rw length-drop (omega (arith, some_width f)) in whole_within f k (drop (width_of f) l) g)

whole : (f : Form) (l : List ℕ) → Whole f l
whole f l = whole_within f (length l) l (omega arith)

module _ {A : Type 0} where
  -- a cut of a joined list cuts the first, and the second by what is left
  pub take_append : (n : ℕ) (a b : List A) → take n (a ++ b) ≡ take n a ++ take (n - length a) b
  take_append n [] b = let e : n - 0 ≡ n = omega arith in rw (take-nil n, e)
  take_append zero (x ∷ a) b = let e : 0 - suc (length a) ≡ 0 = omega arith in rw e
  take_append (suc n) (x ∷ a) b =
      let e : suc n - suc (length a) ≡ n - length a = omega arith in
      rw (e, take_append n a b)

  drop_take : (m n : ℕ) (l : List A) → drop m (take n l) ≡ take (n - m) (drop m l)
  drop_take zero n l = let e : n - 0 ≡ n = omega arith in rw e
  drop_take (suc m) n [] = rw (take-nil n, take-nil (n - suc m))
  drop_take (suc m) zero (x ∷ l) = let e : 0 - suc m ≡ 0 = omega arith in rw e
  drop_take (suc m) (suc n) (x ∷ l) = let e : suc n - suc m ≡ n - m = omega arith in rw (e, drop_take m n l)

empty : (l : List ℕ) → length l ≡ 0 → l ≡ []
empty [] e = refl
empty (x ∷ l) e = absurd (omega arith)

-- whole records, and with one taken off
whole_less : (f : Form) (n : ℕ) → width_of f ≤ n → n % width_of f ≡ 0 → (n - width_of f) % width_of f ≡ 0
whole_less Three n h e = omega arith
whole_less Four n h e = omega arith

whole_empty : (f : Form) (n : ℕ) → n < width_of f → n % width_of f ≡ 0 → n ≡ 0
whole_empty Three n h e = omega arith
whole_empty Four n h e = omega arith

-- the records of joined logs, of which the first is whole records
append_whole : (f : Form) (a b : List ℕ) → Whole f a → length a % width_of f ≡ 0 → records_by f (a ++ b) ≡ records_by f a ++ records_by f b
append_whole f a b (short h) e = rw (empty a (whole_empty f (length a) h e), records_none f [] (some_width f))
append_whole f a b (long h w) e =
    let g : length (drop (width_of f) a) % width_of f ≡ 0 = rw length-drop (whole_less f (length a) h e) in
    let k : width_of f ≤ length (a ++ b) = rw length-append (omega arith) in
    rw (
      records_cons f (a ++ b) k,
      take-append-le (width_of f) a b h,
      drop-append-le (width_of f) a b h,
      append_whole f (drop (width_of f) a) b w g,
      records_cons f a h,
    )

pub records_append : (f : Form) (a b : List ℕ) → length a % width_of f ≡ 0 → records_by f (a ++ b) ≡ records_by f a ++ records_by f b
records_append f a b e = append_whole f a b (whole f a) e

length_first : (f : Form) (k : ℕ) (l : List ℕ) → length (first_records f k l) ≡ k
unfolding first_records
length_first f zero l = refl
length_first f (suc k) l = ap suc (length_first f k (drop (width_of f) l))

pub length_records : (f : Form) (l : List ℕ) → length (records_by f l) ≡ length l / width_of f
unfolding records_by
length_records f l = length_first f (length l / width_of f) l

-- the records of a cut log
take_whole : (f : Form) (l : List ℕ) (n : ℕ) → Whole f l → Dec (n < width_of f) → records_by f (take n l) ≡ take (n / width_of f) (records_by f l)
take_whole f l n (short h) d =
    let g : length (take n l) < width_of f = rw length-take (omega (arith, min-le_right n (length l))) in
    rw (records_none f (take n l) g, records_none f l h, take-nil (n / width_of f))
take_whole f l n (long h w) (yes d) =
    let g : length (take n l) < width_of f = rw length-take (omega (arith, min-le_left n (length l))) in
    rw (records_none f (take n l) g, wholes_none f n d)
take_whole f l n (long h w) (no m) =
    let d : width_of f ≤ n = omega (arith, m) in
    let g : width_of f ≤ length (take n l) = rw length-take (omega arith) in
    rw (
      records_cons f (take n l) g,
      take-take (width_of f) n l d,
      drop_take (width_of f) n l,
      take_whole f (drop (width_of f) l) (n - width_of f) w (dec_lt (n - width_of f) (width_of f)),
      records_cons f l h,
      wholes_more f n d,
    )

pub records_take : (f : Form) (l : List ℕ) (n : ℕ) → records_by f (take n l) ≡ take (n / width_of f) (records_by f l)
records_take f l n = take_whole f l n (whole f l) (dec_lt n (width_of f))

-- playing records keeps the save's length, and goes part by part
pub length_apply_all : (s : List ℕ) (rs : List Rec) → length (apply_all s rs) ≡ length s
unfolding apply_all
length_apply_all s [] = refl
length_apply_all s (r ∷ rs) = length_apply_all (set s r.address r.value) rs ∙ length-set s r.address r.value

pub apply_all_append : (s : List ℕ) (a b : List Rec) → apply_all s (a ++ b) ≡ apply_all (apply_all s a) b
unfolding apply_all
apply_all_append s [] b = refl
apply_all_append s (r ∷ a) b = apply_all_append (set s r.address r.value) a b

pub all_sound_append : (ram : ℕ) (a b : List Rec) → all_sound ram a ≡ true → all_sound ram b ≡ true → all_sound ram (a ++ b) ≡ true
unfolding all_sound
all_sound_append ram [] b h k = k
all_sound_append ram (r ∷ a) b h k =
    let t = both_true (sound_record ram r) (all_sound ram a) h in
    rw t.0 (all_sound_append ram a b t.1 k)

pub all_sound_take : (ram : ℕ) (rs : List Rec) (k : ℕ) → all_sound ram rs ≡ true → all_sound ram (take k rs) ≡ true
unfolding all_sound
all_sound_take ram [] k h = rw take-nil
all_sound_take ram (r ∷ rs) zero h = refl
all_sound_take ram (r ∷ rs) (suc k) h =
    let t = both_true (sound_record ram r) (all_sound ram rs) h in
    rw (t.0, all_sound_take ram rs k t.1)

-- what recovery takes and finds sound, it plays
pub recovery_done : (s l : List ℕ) → one_of (length s) save_lengths ≡ true → length l ≤ log_limit → all_sound (length s) (records l) ≡ true
    → recovery s l ≡ outcome done (apply_all s (records l))
unfolding recovery lengths_fit
recovery_done s l a b c = rw (a, le-leb (length l) log_limit b, c)

-- and what gave 0 was taken and sound
done_by : (a b : Bool) (s t u : List ℕ) → (cond a (cond b (outcome done s) (outcome damaged t)) (outcome wrong_length u)).number ≡ done → (a ≡ true) × (b ≡ true)
done_by true true s t u h = (refl, refl)
done_by true false s t u h = absurd (omega arith)
done_by false b s t u h = absurd (omega arith)

pub prefix : PrefixLaw
unfolding recovery lengths_fit
prefix s l n z =
    let t = done_by (lengths_fit (length s) (length l)) (all_sound (length s) (records l)) _ s s z in
    let f = both_true (one_of (length s) save_lengths) (leb (length l) log_limit) t.0 in
    let k : length (take n l) ≤ log_limit = rw length-take (omega (arith, leb-true (length l) log_limit f.1, min-le_right n (length l))) in
    let g = ap (all_sound (length s)) (records_take Four l n) ∙ all_sound_take (length s) (records l) (n / width) t.1 in
    recovery_done s (take n l) f.0 k g ∙ ap (λ rs. outcome done (apply_all s rs)) (records_take Four l n)

-- a copy recovers, so what the prefix law says of a log it says of a copy
cut_copy : (s c : List ℕ) (n : ℕ) → one_of (length s) save_lengths ≡ true → Copy (length s) c
    → (recovery s (take n c)).save ≡ apply_all s (take (n / width) (records c))
cut_copy s c n e h = ap (λ o. o.save) (prefix s c n (ap (λ o. o.number) (recovery_done s c e h.short h.sound)))

pub joined_cut : (n : ℕ) (cs : List (List ℕ)) → joined (cut_copies n cs) ≡ take n (joined cs)
unfolding joined cut_copies
joined_cut n [] = rw take-nil
joined_cut n (c ∷ cs) = rw (take_append n c (joined cs), joined_cut (n - length c) cs)

recover_cut : {ram : ℕ} {cs : List (List ℕ)} → Copies ram cs → (s : List ℕ) (n : ℕ) → length s ≡ ram → one_of ram save_lengths ≡ true
    → recover_all s (cut_copies n cs) ≡ apply_all s (take (n / width) (records (joined cs)))
unfolding recover_all cut_copies joined apply_all
recover_cut none s n m e = rw (records_none Four [] (omega arith), take-nil (n / width))
recover_cut (more {c} {cs} h hs) s n m e =
    let k : n / width - length c / width ≡ (n - length c) / width = omega (arith, h.whole) in
    let s' = apply_all s (take (n / width) (records c)) in
    ap (λ x. recover_all x (cut_copies (n - length c) cs)) (cut_copy s c n (rw m e) (rw m h))
    ∙ recover_cut hs s' (n - length c) (length_apply_all s (take (n / width) (records c)) ∙ m) e
    ∙ sym (rw (
      records_append Four c (joined cs) h.whole,
      take_append (n / width) (records c) (records (joined cs)),
      length_records Four c,
      k,
      apply_all_append s (take (n / width) (records c)) (take ((n - length c) / width) (records (joined cs))),
    ))

pub copies : CopiesLaw
copies s cs n e h = (joined_cut n cs, recover_cut h s n refl e)

-- the bytes of one record are one record
one_record : (a v : ℕ) → v < 256 → a < address_end → records (record_bytes Four a v) ≡ stored a v ∷ []
one_record a v h k =
    ap records (sym (append-nil (record_bytes Four a v)))
    ∙ record_first Four a v [] h k
    ∙ ap (λ (rs : List Rec). stored a v ∷ rs) (records_none Four [] (omega arith))

pub append_adds : AppendLaw
unfolding appended
append_adds l u a v e h k m =
    let t : length (take u l) ≡ u = length-take-le u l (omega arith) in (
      rw (append_assoc, take_at (take u l) (record_bytes Four a v ++ drop (u + width) l) u t),
      rw (used_more l u a v h, records_append Four (take u l) (record_bytes Four a v) (rw t e), one_record a v m k),
    )

pub corner : Corner
unfolding record_bytes record_number bytes_of
corner = refl
