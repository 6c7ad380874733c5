-- The scan of a journal, in parts and as a whole; the records before the first damaged one.
use mathlib.Core.Bool.{Bool, true, false, cond}
use mathlib.Core.Path.{◌≡◌, refl, ap, ◌∙◌}
use mathlib.Core.List.{List, [], ◌∷◌}
use Prim.Native.Nat.{ℕ, zero, suc, ◌+◌, ◌-◌, ◌*◌, ◌/◌, ◌%◌, ◌≤◌, ◌<◌}
use native.Mathlib.Numerals.{add-one}
use native.Mathlib.Omega.{arith}
use lib.Dec.{ltb, eqb}
use lib.ListN.{length, get_or, take, drop, get_or-eq_default}
use lib.Seq.{drop-cons, drop-length}
use borrow.Author.Tests.{ltb-false, lt-ltb, le-ltb, eqb-true, eqb-false, ne_eqb}
use Rattle.rules.proofs.Tests.{cond_both}
use Rattle.savelog.specs.Log.{width_of, record_of, sound_record, records_by}
use Rattle.savelog.specs.declared.Form.{Form}
use Rattle.savelog.specs.declared.Form.TheVariants.{Three, Four}
use Rattle.savelog.proofs.Laws.{records_step, records_end}
use Rattle.savelog.specs.declared.Rec.{Rec}
use Rattle.recover_messages.specs.declared.journal.Scan.{Scan}
use Rattle.recover_messages.specs.Journal.{end_of, scan, unread, byte_scanned, scanned, kept, PartsLaw, WholeLaw, ZerosLaw, KeptLaw, sound_first, journal_limit}

-- one byte more, and none
pub scan_next : (s : Scan) (p : List ℕ) (i : ℕ) → i < length p → scanned s (drop i p) ≡ scanned (byte_scanned s (get_or p i 0)) (drop (i + 1) p)
unfolding scanned
scan_next s p i h = rw (add-one i, drop-cons p i 0 h)

pub scan_ends : (s : Scan) (p : List ℕ) (i : ℕ) → i ≡ length p → scanned s (drop i p) ≡ s
unfolding scanned
scan_ends s p i e = rw (e, drop-length p)

pub byte_bounded : (s : Scan) (b : ℕ) → s.end ≤ s.len → (byte_scanned s b).end ≤ (byte_scanned s b).len
unfolding byte_scanned
byte_bounded s b h = cond_both (λ e. e ≤ s.len + 1) (eqb b 0) (omega arith) (omega arith)

pub byte_len : (s : Scan) (b : ℕ) → (byte_scanned s b).len ≡ s.len + 1
unfolding byte_scanned
byte_len s b = refl

pub parts : PartsLaw
unfolding scanned
parts s [] b = refl
parts s (x ∷ a) b = parts (byte_scanned s x) a b

-- where a scan ends that begins at s
behind : (p q : Bool) (l e n : ℕ)
    → cond p (cond q e (l + 1)) (l + 1 + n) ≡ cond (eqb (cond p (cond q 0 1) (suc n)) 0) e (l + cond p (cond q 0 1) (suc n))
behind true true l e n = refl
behind true false l e n = refl
behind false q l e n = let f : l + 1 + n ≡ l + suc n = omega arith in rw (f, ne_eqb (suc n) 0 (λ (z : suc n ≡ 0). omega arith))

from_there : (s : Scan) (j : List ℕ) → scanned s j ≡ scan (s.len + length j) (cond (eqb (end_of j) 0) s.end (s.len + end_of j))
unfolding scanned end_of byte_scanned
from_there s [] = let e : s.len + 0 ≡ s.len = omega arith in rw e
from_there s (b ∷ j) =
    let e : s.len + 1 + length j ≡ s.len + suc (length j) = omega arith in
    rw (from_there (byte_scanned s b) j, e, behind (eqb (end_of j) 0) (eqb b 0) s.len s.end (end_of j))

none_behind : (n : ℕ) (b : Bool) → eqb n 0 ≡ b → cond b 0 (0 + n) ≡ n
none_behind n true e = let z = eqb-true n 0 e in omega arith
none_behind n false e = omega arith

pub whole : WholeLaw
whole j =
    let e : 0 + length j ≡ length j = omega arith in
    rw (from_there unread j, e, none_behind (end_of j) (eqb (end_of j) 0) refl)

-- zeros behind the end
zeros_more : (b : ℕ) (j : List ℕ) → ((i : ℕ) → end_of j ≤ i → get_or j i 0 ≡ 0)
    → (p : Bool) → eqb (end_of j) 0 ≡ p → (q : Bool) → eqb b 0 ≡ q
    → (k : ℕ) → cond p (cond q 0 1) (suc (end_of j)) ≤ k → get_or (b ∷ j) k 0 ≡ 0
zeros_more b j r true e true f zero l = eqb-true b 0 f
zeros_more b j r true e true f (suc k) l = r k (omega (arith, eqb-true (end_of j) 0 e))
zeros_more b j r true e false f zero l = absurd (omega arith)
zeros_more b j r true e false f (suc k) l = r k (omega (arith, eqb-true (end_of j) 0 e))
zeros_more b j r false e q f zero l = absurd (omega arith)
zeros_more b j r false e q f (suc k) l = r k (omega arith)

zeros_behind : (j : List ℕ) (i : ℕ) → end_of j ≤ i → get_or j i 0 ≡ 0
unfolding end_of
zeros_behind [] i h = get_or-eq_default [] 0 {n = i} (omega arith)
zeros_behind (b ∷ j) i h = zeros_more b j (zeros_behind j) (eqb (end_of j) 0) refl (eqb b 0) refl i h

-- and none before it
last_next : (b : ℕ) (j : List ℕ) → (0 < end_of j → get_or j (end_of j - 1) 0 ≡ 0 → ⊥) → (n : ℕ) → end_of j ≡ n → (n ≡ 0 → ⊥) → get_or (b ∷ j) n 0 ≡ 0 → ⊥
last_next b j r zero m z t = z refl
last_next b j r (suc n) m z t =
    let w : end_of j - 1 ≡ n = omega arith in
    r (omega arith) (rw w t)

last_more : (b : ℕ) (j : List ℕ) → (0 < end_of j → get_or j (end_of j - 1) 0 ≡ 0 → ⊥)
    → (p : Bool) → eqb (end_of j) 0 ≡ p → (q : Bool) → eqb b 0 ≡ q
    → 0 < cond p (cond q 0 1) (suc (end_of j)) → get_or (b ∷ j) (cond p (cond q 0 1) (suc (end_of j)) - 1) 0 ≡ 0 → ⊥
last_more b j r true e true f k l = omega arith
last_more b j r true e false f k l = eqb-false b 0 f l
last_more b j r false e q f k l =
    let z : suc (end_of j) - 1 ≡ end_of j = omega arith in
    last_next b j r (end_of j) refl (eqb-false (end_of j) 0 e) (rw z at l)

last_stands : (j : List ℕ) → 0 < end_of j → get_or j (end_of j - 1) 0 ≡ 0 → ⊥
unfolding end_of
last_stands [] h g = omega arith
last_stands (b ∷ j) h g = last_more b j (last_stands j) (eqb (end_of j) 0) refl (eqb b 0) refl h g

pub zeros : ZerosLaw
zeros j = (zeros_behind j, last_stands j)

-- the records before the first damaged one
within_more : (b : Bool) (n m : ℕ) → n ≤ m → cond b (suc n) 0 ≤ suc m
within_more true n m h = omega arith
within_more false n m h = omega arith

pub first_within : (ram : ℕ) (rs : List Rec) → sound_first ram rs ≤ length rs
unfolding sound_first
first_within ram [] = omega arith
first_within ram (r ∷ rs) = within_more (sound_record ram r) (sound_first ram rs) (length rs) (first_within ram rs)

module _ (f : Form) (ram : ℕ) (l : List ℕ) (i : ℕ) where
  -- a turn over the record at i
  pub first_stops : i + width_of f ≤ length l → sound_record ram (record_of f (take (width_of f) (drop i l))) ≡ false → sound_first ram (records_by f (drop i l)) ≡ 0
  unfolding sound_first
  first_stops h e = rw (records_step f l i h, e)

  pub first_goes : i + width_of f ≤ length l → sound_record ram (record_of f (take (width_of f) (drop i l))) ≡ true
      → sound_first ram (records_by f (drop i l)) ≡ suc (sound_first ram (records_by f (drop (i + width_of f) l)))
  unfolding sound_first
  first_goes h e = rw (records_step f l i h, e)

  pub first_ends : length l - i < width_of f → sound_first ram (records_by f (drop i l)) ≡ 0
  unfolding sound_first
  first_ends h = rw (records_end f l i h)

-- a form's width is three or four, and whole records are no more than all
pub width_within : (f : Form) → (3 ≤ width_of f) × (width_of f ≤ 4)
width_within Three = (omega arith, omega arith)
width_within Four = (omega arith, omega arith)

pub whole_less : (f : Form) (n : ℕ) → n / width_of f * width_of f ≤ n
whole_less Three n = omega arith
whole_less Four n = omega arith

-- three bytes of each record, all bytes of the whole ones, and what is behind them
pub threes : (f : Form) (n : ℕ) → n / width_of f * 3 ≤ n
threes Three n = omega arith
threes Four n = omega arith

pub bytes_fit : (f : Form) (n : ℕ) → n < journal_limit → n * width_of f < 18446744073709551616
bytes_fit Three n h = omega arith
bytes_fit Four n h = omega arith

pub rest_within : (f : Form) (n : ℕ) → n % width_of f ≤ n
rest_within Three n = omega arith
rest_within Four n = omega arith

pub inside : (f : Form) (n len : ℕ) → n < len / width_of f → n * width_of f + width_of f ≤ len
inside Three n len h = omega arith
inside Four n len h = omega arith

-- the record behind n of them, and none where they are all
pub behind_next : (f : Form) (n : ℕ) → (n + 1) * width_of f ≡ n * width_of f + width_of f
behind_next Three n = omega arith
behind_next Four n = omega arith

pub none_left : (f : Form) (n len : ℕ) → len / width_of f ≤ n → len - n * width_of f < width_of f
none_left Three n len h = omega arith
none_left Four n len h = omega arith

pub first_here : (f : Form) (ram : ℕ) (l : List ℕ) → sound_first ram (records_by f l) ≡ 0 + sound_first ram (records_by f (drop (0 * width_of f) l))
first_here f ram l = let z : 0 * width_of f ≡ 0 = omega arith in rw z (omega arith)

-- what of a journal is kept
kept_more : (f : Form) (len e : ℕ) (b : Bool) → ltb ((e + width_of f - 1) / width_of f * width_of f) len ≡ b → e ≤ len
    → (cond b (e / width_of f * width_of f) len ≤ len)
    × ((i : ℕ) → i * width_of f + width_of f ≤ cond b (e / width_of f * width_of f) len → i * width_of f < e)
    × (cond b (e / width_of f * width_of f) len < len
    → (cond b (e / width_of f * width_of f) len % width_of f ≡ 0)
    × (cond b (e / width_of f * width_of f) len ≤ e)
    × (e < cond b (e / width_of f * width_of f) len + width_of f))
kept_more Three len e true t h = (omega arith, (λ i g. omega arith), λ g. (omega arith, omega arith, omega arith))
kept_more Three len e false t h = (omega arith, (λ i g. omega (arith, ltb-false ((e + 3 - 1) / 3 * 3) len t)), λ g. absurd (omega arith))
kept_more Four len e true t h = (omega arith, (λ i g. omega arith), λ g. (omega arith, omega arith, omega arith))
kept_more Four len e false t h = (omega arith, (λ i g. omega (arith, ltb-false ((e + 4 - 1) / 4 * 4) len t)), λ g. absurd (omega arith))

end_more : (p q : Bool) (n m : ℕ) → n ≤ m → cond p (cond q 0 1) (suc n) ≤ suc m
end_more true true n m h = omega arith
end_more true false n m h = omega arith
end_more false q n m h = omega arith

end_within : (j : List ℕ) → end_of j ≤ length j
unfolding end_of
end_within [] = omega arith
end_within (b ∷ j) = end_more (eqb (end_of j) 0) (eqb b 0) (end_of j) (length j) (end_within j)

pub keeps : KeptLaw
unfolding kept
keeps f j = kept_more f (length j) (end_of j) (ltb ((end_of j + width_of f - 1) / width_of f * width_of f) (length j)) refl (end_within j)

-- by the numbers that the code has worked out: w is the width, r the records up to the next place, n their bytes
module _ (f : Form) (len e w r n : ℕ) (a : w ≡ width_of f) (b : r ≡ (e + w - 1) / width_of f) (c : n ≡ r * width_of f) where
  next_place : n ≡ (e + width_of f - 1) / width_of f * width_of f
  next_place = c ∙ ap (λ x. x * width_of f) (b ∙ ap (λ x. (e + x - 1) / width_of f) a)

  pub keeps_less : (r' n' : ℕ) → n < len → r' ≡ e / width_of f → n' ≡ r' * width_of f → n' ≡ kept f len e
  unfolding kept
  keeps_less r' n' h d g = rw (← next_place, lt-ltb n len h, ← d, g)

  pub keeps_all : len ≤ n → len ≡ kept f len e
  unfolding kept
  keeps_all h = rw (← next_place, le-ltb n len h)
