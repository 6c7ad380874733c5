-- What the converters' proofs cite: how long the other form is, a record more and none, and the target so far.
use mathlib.Core.Bool.{Bool, true, false, cond, ◌&&◌}
use mathlib.Core.Path.{◌≡◌, refl, ap, sym, ◌∙◌}
use mathlib.Core.List.{List, [], ◌∷◌, ◌++◌, append_assoc, append-nil}
use Prim.Native.Nat.{ℕ, ◌+◌, ◌-◌, ◌≤◌, ◌<◌}
use native.Mathlib.Omega.{arith}
use lib.Dec.{eqb, ltb, leb}
use lib.ListN.{length, take, drop, length-append, length-drop, take-append-drop}
use lib.Seq.{take_at, drop_at, drop-drop, length-take-le}
use borrow.Author.Tests.{leb-true}
use Rattle.numbers.specs.Numbers.{done, wrong_length, damaged}
use Rattle.rules.proofs.Tests.{both_true}
use Rattle.savelog.specs.Log.{Form, Three, Four, Rec, width_of, end_of, log_limit, bytes_of, record_number, record_bytes, record_of, records_by, sound_record, all_sound}
use Rattle.savelog.specs.Convert.{undamaged, below, bytes_by, length_by, room, converted, conversion}
use Rattle.savelog.proofs.Laws.{placed, length_bytes, records_none, turn}

pub length_more : (f t : Form) (n : ℕ) → width_of f ≤ n → length_by f t n ≡ width_of t + length_by f t (n - width_of f)
length_more Three Three n h = omega arith
length_more Three Four n h = omega arith
length_more Four Three n h = omega arith
length_more Four Four n h = omega arith

pub length_none : (f t : Form) (n : ℕ) → n < width_of f → length_by f t n ≡ 0
length_none Three Three n h = omega arith
length_none Three Four n h = omega arith
length_none Four Three n h = omega arith
length_none Four Four n h = omega arith

-- where the next record goes, and that nothing is left at the end
module _ (f t : Form) {l : List ℕ} (b m : List ℕ) (s : l ≡ b ++ m) (n : length b ≡ width_of f) where
  pub room_step : (o end : ℕ) → o + length_by f t (length l) ≡ end → (o + width_of t ≤ end) × ((o + width_of t) + length_by f t (length m) ≡ end)
  room_step o end e =
      let k : length l ≡ width_of f + length m = rw (s, length-append, n) in
      let q : length l - width_of f ≡ length m = omega (arith, k) in
      let g = rw q at (length_more f t (length l) (omega (arith, k))) in
      (omega (arith, e, g), omega (arith, e, g))

pub room_end : (f t : Form) (n o end : ℕ) → n < width_of f → o + length_by f t n ≡ end → o ≡ end
room_end f t n o end h e = omega (arith, e, length_none f t n h)

-- what the room says
pub record Roomy (f t : Form) (s u : ℕ) : Type 0 where
  pub source : s ≤ log_limit
  pub log : length_by f t s ≤ log_limit
  pub target : length_by f t s ≤ u

pub roomy : (f t : Form) (s u : ℕ) → room f t s u ≡ true → Roomy f t s u
unfolding room
roomy f t s u e =
    let a = both_true (leb s log_limit) _ e in
    let b = both_true (leb (length_by f t s) log_limit) _ a.1 in
    record { source = leb-true s log_limit a.0; log = leb-true _ log_limit b.0; target = leb-true _ u b.1 }

-- a number in its place: the bytes to its end, and those behind
pub placed_take : (l : List ℕ) (i k n : ℕ) → i ≤ length l → take (i + k) (placed l i k n) ≡ take i l ++ bytes_of k n
placed_take l i k n h =
    let t : length (take i l) ≡ i = length-take-le i l h in
    let j : length (take i l ++ bytes_of k n) ≡ i + k = rw (length-append, t, length_bytes k n) in
    take_at (take i l ++ bytes_of k n) (drop (i + k) l) (i + k) j

pub placed_drop : (l : List ℕ) (i k n m : ℕ) → i ≤ length l → i + k ≤ m → drop m (placed l i k n) ≡ drop m l
placed_drop l i k n m h g =
    let t : length (take i l) ≡ i = length-take-le i l h in
    let j : length (take i l ++ bytes_of k n) ≡ i + k = rw (length-append, t, length_bytes k n) in
    let e : m ≡ (i + k) + (m - (i + k)) = omega arith in
    let d = drop_at (take i l ++ bytes_of k n) (drop (i + k) l) (i + k) j in
    rw e (sym (drop-drop (m - (i + k)) (i + k) (placed l i k n)) ∙ ap (drop (m - (i + k))) d ∙ drop-drop (m - (i + k)) (i + k) l)

pub placed_length : (l : List ℕ) (i k n : ℕ) → i + k ≤ length l → length (placed l i k n) ≡ length l
placed_length l i k n h = rw (length-append, length-append, length-take-le i l (omega arith), length_bytes k n, length-drop) (omega arith)

-- The target so far: what is put, what the rest of the source will be, and what stays behind it all.
abbrev pub so_far : Form → Form → List ℕ → ℕ → ℕ → List ℕ → List ℕ
so_far f t rest o end l = take o l ++ bytes_by t (records_by f rest) ++ drop end l

pub so_far_step : (f t : Form) {s : List ℕ} (b m : List ℕ) {r : Rec} → s ≡ b ++ m → length b ≡ width_of f → r ≡ record_of f b
    → (l : List ℕ) (o end : ℕ) → o ≤ length l → o + width_of t ≤ end
    → so_far f t s o end l ≡ so_far f t m (o + width_of t) end (placed l o (width_of t) (record_number t r.address r.value))
unfolding bytes_by record_bytes
so_far_step f t b m {r} p n e l o end k h =
    rw (
      turn f b m p n e,
      placed_take l o (width_of t) (record_number t r.address r.value) k,
      placed_drop l o (width_of t) (record_number t r.address r.value) end k h,
    )
    (simp append_assoc)

pub so_far_end : (f t : Form) (s l : List ℕ) (o end : ℕ) → length s < width_of f → o ≡ end → so_far f t s o end l ≡ l
unfolding bytes_by
so_far_end f t s l o end h e = rw (records_none f s h, e, append-nil (take end l)) (take-append-drop end l)

-- Undamaged, and every address below an end: sound for a save of that length.
exchange : (m s l u b : Bool) → ((m && (s && l)) && (u && b)) ≡ (((m && s) && u) && (l && b))
exchange false s l u b = refl
exchange true false l u b = refl
exchange true true false true b = refl
exchange true true false false b = refl
exchange true true true u b = refl

pub sound_parts : (end : ℕ) (rs : List Rec) → all_sound end rs ≡ (undamaged rs && below end rs)
unfolding all_sound undamaged below
sound_parts end [] = refl
sound_parts end (r ∷ rs) =
    ap (λ (t : Bool). sound_record end r && t) (sound_parts end rs)
    ∙ exchange (eqb r.mark 1) (eqb r.spare 0) (ltb r.address end) (undamaged rs) (below end rs)

two_tests : {A : Type 0} (u b : Bool) (x d : A) → cond u (cond b x d) d ≡ cond (u && b) x d
two_tests true b x d = refl
two_tests false b x d = refl

-- so the converter's two tests are the one that the code makes
abbrev pub result : Form → Form → List ℕ → List ℕ → List ℕ
result f t s l = bytes_by t (records_by f s) ++ drop (length_by f t (length s)) l

pub by_sound : (f t : Form) (s l : List ℕ)
    → conversion f t s l
    ≡ cond (room f t (length s) (length l))
    (cond (all_sound (end_of t) (records_by f s)) (converted done (length_by f t (length s)) (result f t s l)) (converted damaged 0 l))
    (converted wrong_length 0 l)
unfolding conversion
by_sound f t s l =
    rw (sound_parts (end_of t) (records_by f s), two_tests (undamaged (records_by f s)) (below (end_of t) (records_by f s)) (converted done (length_by f t (length s)) (result f t s l)) (converted damaged 0 l))
