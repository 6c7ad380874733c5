-- Pieces of text in a buffer: one put behind the other is the joined text put. And the texts of bytes and of numbered things, one more at a time.
use mathlib.Core.Path.{◌≡◌, refl, sym, ◌∙◌}
use mathlib.Core.List.{List, [], ◌∷◌, ◌++◌, append_assoc, append-nil}
use Prim.Native.Nat.{ℕ, suc, ◌+◌, ◌-◌, ◌*◌, ◌≤◌, ◌<◌}
use native.Mathlib.Nat.{mul-suc, mul-zero}
use native.Mathlib.Numerals.{add-one}
use native.Mathlib.Omega.{arith}
use lib.ListN.{length, take, drop, get_or, length-append, length-drop, take-append-drop}
use lib.Seq.{length-take-le, take_at, take-suc, drop_at, drop-drop}
use Rattle.recover_text.specs.Text.{Put, texts, numbered}
use Rattle.recover_text.specs.Page.{Puts}
use Rattle.recover_text.specs.declared.put.Page.{Page}

-- no text
pub put_none : (o : List ℕ) (at : ℕ) → at ≤ length o → Put o at [] o at
put_none o at h = record { fits = omega arith; ends = omega arith; bytes = sym (take-append-drop at o) }

-- the same text by another name
pub named : {o t t' o' : List ℕ} {at end : ℕ} → t ≡ t' → Put o at t o' end → Put o at t' o' end
named e p = rw (← e) p

-- a buffer keeps its length
pub kept_length : {o t o' : List ℕ} {at end : ℕ} → Put o at t o' end → length o' ≡ length o
kept_length {o} {t} {o'} {at} {end} p =
    let f = p.fits in
    let e = p.ends in
    let a : length (take at o) ≡ at = length-take-le at o (omega arith) in
    rw (p.bytes, length-append (take at o) (t ++ drop end o), length-append t (drop end o), a, length-drop end o) (omega arith)

-- one text behind the other
pub and_then : {o a o' b o'' : List ℕ} {at m end : ℕ} → Put o at a o' m → Put o' m b o'' end → Put o at (a ++ b) o'' end
and_then {o} {a} {o'} {b} {o''} {at} {m} {end} p q =
    let f = p.fits in
    let e = p.ends in
    let g = q.fits in
    let h = q.ends in
    let k = kept_length p in
    let n : length (a ++ b) ≡ length a + length b = length-append a b in
    let t : length (take at o) ≡ at = length-take-le at o (omega arith) in
    let l : length (take at o ++ a) ≡ m = rw (length-append (take at o) a, t) (sym e) in
    let s : o' ≡ (take at o ++ a) ++ drop m o = p.bytes ∙ sym (append_assoc (take at o) a (drop m o)) in
    let u : take m o' ≡ take at o ++ a = rw s (take_at (take at o ++ a) (drop m o) m l) in
    let v : drop m o' ≡ drop m o = rw s (drop_at (take at o ++ a) (drop m o) m l) in
    let w : drop end o' ≡ drop end o = rw (h, ← drop-drop (length b) m o', v, drop-drop (length b) m o) in
    record {
      fits = omega arith;
      ends = omega arith;
      bytes = rw (q.bytes, u, w, append_assoc (take at o) a (b ++ drop end o), append_assoc a b (drop end o));
    }

texts_append : (f : ℕ → List ℕ) (a b : List ℕ) → texts f (a ++ b) ≡ texts f a ++ texts f b
unfolding texts
texts_append f [] b = refl
texts_append f (x ∷ a) b = rw (texts_append f a b, append_assoc (f x) (texts f a) (texts f b))

pub texts_none : (f : ℕ → List ℕ) → texts f [] ≡ []
unfolding texts
texts_none f = refl

texts_one : (f : ℕ → List ℕ) (b : ℕ) → texts f (b ∷ []) ≡ f b
unfolding texts
texts_one f b = append-nil (f b)

-- one byte more
pub texts_next : (f : ℕ → List ℕ) (s : List ℕ) (i : ℕ) → i < length s → texts f (take i s) ++ f (get_or s i 0) ≡ texts f (take (i + 1) s)
texts_next f s i h =
    sym (rw (add-one i, take-suc s i 0 h, texts_append f (take i s) (get_or s i 0 ∷ []), texts_one f (get_or s i 0)))

-- texts of the same length each
pub texts_length : (f : ℕ → List ℕ) (k : ℕ) → ((b : ℕ) → length (f b) ≡ k) → (s : List ℕ) → length (texts f s) ≡ k * length s
unfolding texts
texts_length f k h [] = sym (mul-zero k)
texts_length f k h (b ∷ bs) =
    rw (length-append (f b) (texts f bs), h b, texts_length f k h bs, mul-suc k (length bs)) (omega arith)

-- one numbered text more
pub numbered_next : (f : ℕ → List ℕ) (from k : ℕ) → from ≤ k → numbered f from (k - from) ++ f k ≡ numbered f from (k + 1 - from)
unfolding numbered
numbered_next f from k h =
    let e : k + 1 - from ≡ suc (k - from) = omega arith in
    let g : from + (k - from) ≡ k = omega arith in
    rw (e, g)

pub numbered_none : (f : ℕ → List ℕ) (from k : ℕ) → k ≤ from → numbered f from (k - from) ≡ []
unfolding numbered
numbered_none f from k h = let e : k - from ≡ 0 = omega arith in rw e

-- a text copied over as many bytes of a buffer
pub put_copied : (o s l : List ℕ) (at k : ℕ) → at + length s ≤ length o → k ≡ length s → l ≡ s
    → Put o at s (take at o ++ (l ++ drop k (drop at o))) (at + length s)
put_copied o s l at k h e f =
    record {
      fits = h;
      ends = refl;
      bytes = rw (e, f, drop-drop (length s) at o);
    }

-- what was put at the start is there to be read
pub put_read : {o t o' : List ℕ} {end : ℕ} → Put o 0 t o' end → take end o' ≡ t
put_read {o} {t} {o'} {end} p = let e : length t ≡ end = omega (arith, p.ends) in rw p.bytes (take_at t (drop end o) end e)

-- numbered from 0, one more
pub numbered_more : (f : ℕ → List ℕ) (n : ℕ) → numbered f 0 n ++ f n ≡ numbered f 0 (n + 1)
unfolding numbered
numbered_more f n = let z : 0 + n ≡ n = omega arith in rw (add-one n, z)

pub numbered_zero : (f : ℕ → List ℕ) (from : ℕ) → numbered f from 0 ≡ []
unfolding numbered
numbered_zero f from = refl

-- the same of pages
pub puts_none : (p : Page) → p.end ≤ length p.out.now → Puts p [] p
puts_none p h = record { same_reference = refl; text = put_none p.out.now p.end h }

pub puts_as : {p p' : Page} {t t' : List ℕ} → t ≡ t' → Puts p t p' → Puts p t' p'
puts_as e q = record { same_reference = q.same_reference; text = named e q.text }

pub puts_from : {q p p' : Page} {t : List ℕ} → q ≡ p → Puts q t p' → Puts p t p'
puts_from e r = rw (← e) r

pub puts_to : {p p' q : Page} {t : List ℕ} → q ≡ p' → Puts p t p' → Puts p t q
puts_to e r = rw e r

pub puts_then : {p p' p'' : Page} {a b : List ℕ} → Puts p a p' → Puts p' b p'' → Puts p (a ++ b) p''
puts_then q r = record { same_reference = r.same_reference ∙ q.same_reference; text = and_then q.text r.text }

-- where the text ends, and how long the buffer is
pub puts_ends : {p p' : Page} {t : List ℕ} → Puts p t p' → p'.end ≡ p.end + length t
puts_ends q = q.text.ends

pub puts_length : {p p' : Page} {t : List ℕ} → Puts p t p' → length p'.out.now ≡ length p.out.now
puts_length q = kept_length q.text

-- of a page that began with no text
pub puts_whole : {o t : List ℕ} {p p' : Page} → (p.out.now ≡ o) × (p.end ≡ 0) → Puts p t p' → Put o 0 t p'.out.now p'.end
puts_whole e q = rw (e.0, e.1) at q.text
