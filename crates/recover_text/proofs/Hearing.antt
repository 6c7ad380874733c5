-- What is said of a row: its words one byte further, its lines and how long they are, and which lines a test picks.
use mathlib.Core.Bool.{Bool, true, false, cond}
use mathlib.Core.Logic.{◌⊎◌, inl, inr}
use mathlib.Core.Path.{◌≡◌, refl, sym, ap, ◌∙◌}
use mathlib.Core.List.{List, [], ◌∷◌, ◌++◌, append_assoc, append-nil}
use Prim.Native.Nat.{ℕ, zero, suc, ◌+◌, ◌*◌, ◌≤◌, ◌<◌}
use native.Mathlib.Numerals.{add-one}
use native.Mathlib.Omega.{arith}
use lib.Dec.{eqb}
use lib.ListN.{length, take, drop, get_or, length-append, length-drop}
use lib.Pointwise.{pointwise}
use lib.Seq.{take-suc, drop-cons}
use borrow.Author.Tests.{eq-eqb, ne_eqb}
use Rattle.recover_text.specs.Text.{numbered, address_text}
use Rattle.recover_text.specs.Rows.{row_bytes, same_bytes}
use Rattle.recover_text.specs.Speak.{in_word, step_text, step_place, words, said, nothing, becomes, or_nothing, place, text_line, byte_line, tells, byte_heard, byte_lines, heard}
use Rattle.recover_text.specs.Place.{place_number}
use Rattle.recover_text.specs.declared.speak.Place.{Place}
use Rattle.recover_text.specs.declared.speak.Place.TheVariants.{Before, Inside, Behind}
use Rattle.recover_text.proofs.Lines.{address_length}
use Rattle.recover_text.proofs.Same.{told_pointwise}

-- a byte that is no character of a word, before the first word and behind one; one that is, behind a word and elsewhere
pub gap_text : (p b : ℕ) → in_word b ≡ false → [] ≡ step_text p b
unfolding step_text
gap_text p b e = rw e

pub gap_before : (p b : ℕ) → in_word b ≡ false → p ≡ 0 → 0 ≡ step_place p b
unfolding step_place
gap_before p b e z = rw (e, eq-eqb p 0 z)

pub gap_behind : (p b : ℕ) → in_word b ≡ false → (p ≡ 0 → ⊥) → 2 ≡ step_place p b
unfolding step_place
gap_behind p b e z = rw (e, ne_eqb p 0 z)

pub word_place : (p b : ℕ) → in_word b ≡ true → 1 ≡ step_place p b
unfolding step_place
word_place p b e = rw e

pub word_text : (p b : ℕ) → in_word b ≡ true → (p ≡ 2 → ⊥) → b ∷ [] ≡ step_text p b
unfolding step_text
word_text p b e z = rw (e, ne_eqb p 2 z)

pub word_behind : (p b : ℕ) → in_word b ≡ true → p ≡ 2 → 32 ∷ b ∷ [] ≡ step_text p b
unfolding step_text
word_behind p b e z = rw (e, eq-eqb p 2 z)

-- the places by their numbers
pub not_before : (p : Place) → (p ≡ Inside) ⊎ (p ≡ Behind) → place_number p ≡ 0 → ⊥
not_before p (inl e) z = let w = ap place_number e in omega arith
not_before p (inr e) z = let w = ap place_number e in omega arith

pub not_behind : (p : Place) → (p ≡ Before) ⊎ (p ≡ Inside) → place_number p ≡ 2 → ⊥
not_behind p (inl e) z = let w = ap place_number e in omega arith
not_behind p (inr e) z = let w = ap place_number e in omega arith

-- where the byte behind some bytes stands
unfoldable pub place_after : ℕ → List ℕ → ℕ
place_after p [] = p
place_after p (b ∷ bs) = place_after (step_place p b) bs

words_more : (p : ℕ) (a : List ℕ) (b : ℕ) → words p a ++ step_text (place_after p a) b ≡ words p (a ++ b ∷ [])
unfolding words place_after
words_more p [] b = sym (append-nil (step_text p b))
words_more p (x ∷ a) b = rw (append_assoc (step_text p x) (words (step_place p x) a) (step_text (place_after (step_place p x) a) b), words_more (step_place p x) a b)

place_more : (p : ℕ) (a : List ℕ) (b : ℕ) → step_place (place_after p a) b ≡ place_after p (a ++ b ∷ [])
unfolding place_after
place_more p [] b = refl
place_more p (x ∷ a) b = place_more (step_place p x) a b

module _ (s : List ℕ) (i : ℕ) (h : i < length s) where
  pub words_next : words 0 (take i s) ++ step_text (place_after 0 (take i s)) (get_or s i 0) ≡ words 0 (take (i + 1) s)
  words_next = rw (add-one i, take-suc s i 0 h) (words_more 0 (take i s) (get_or s i 0))

  pub place_next : step_place (place_after 0 (take i s)) (get_or s i 0) ≡ place_after 0 (take (i + 1) s)
  place_next = rw (add-one i, take-suc s i 0 h) (place_more 0 (take i s) (get_or s i 0))

pub words_none : (p : ℕ) → words p [] ≡ []
unfolding words
words_none p = refl

pub place_none : (p : ℕ) → place_after p [] ≡ p
unfolding place_after
place_none p = refl

step_length : (p b : ℕ) → length (step_text p b) ≤ 2
unfolding step_text
step_length p b = pick (in_word b) (eqb p 2)
  where
    pick : (w t : Bool) → length (cond w (cond t (32 ∷ b ∷ []) (b ∷ [])) []) ≤ 2
    pick true true = omega arith
    pick true false = omega arith
    pick false t = omega arith

pub words_length : (p : ℕ) (s : List ℕ) → length (words p s) ≤ 2 * length s
unfolding words
words_length p [] = omega arith
words_length p (b ∷ s) = rw (length-append (step_text p b) (words (step_place p b) s)) (omega (arith, step_length p b, words_length (step_place p b) s))

-- a text, or the word for none
pub says_nothing : (t : List ℕ) → length t ≡ 0 → nothing ≡ or_nothing t
unfolding or_nothing
says_nothing [] e = refl
says_nothing (x ∷ t) e = absurd (omega arith)

pub says_text : (t : List ℕ) → (length t ≡ 0 → ⊥) → t ≡ or_nothing t
unfolding or_nothing
says_text [] f = absurd (f refl)
says_text (x ∷ t) f = refl

pub said_length : (t : List ℕ) → length t ≤ 32 → length (or_nothing t) ≤ 32
unfolding or_nothing
said_length [] h = omega arith
said_length (x ∷ t) h = h

-- what is left of a list from a place on: a byte and what stands behind it, or none
pub left_next : (l : List ℕ) (k x : ℕ) (t : List ℕ) → x ∷ t ≡ drop k l → (k < length l) × (x ≡ get_or l k 0) × (t ≡ drop (k + 1) l)
left_next l k x t e =
    let h : k < length l = omega (arith, length-drop k l, ap length e) in
    let f : x ∷ t ≡ get_or l k 0 ∷ drop (suc k) l = e ∙ drop-cons l k 0 h in
    (h, cc, rw (add-one k) cc)

pub left_none : (l r : List ℕ) (k : ℕ) → r ≡ drop k l → length r ≡ 0 → length l ≤ k
left_none l r k e z = omega (arith, length-drop k l, ap length e)

-- the lines of bytes
pub heard_line : (every : Bool) (at o n : ℕ) → tells every o n ≡ true → byte_line at o n ≡ byte_heard every at o n
unfolding byte_heard
heard_line every at o n e = rw e

pub heard_none : (every : Bool) (at o n : ℕ) → tells every o n ≡ false → [] ≡ byte_heard every at o n
unfolding byte_heard
heard_none every at o n e = rw e

place_length : (at : ℕ) → length (place at) ≤ 7
place_length at = rw (length-append (address_text at)) (omega (arith, (address_length at).1))

byte_line_length : (at o n : ℕ) → length (byte_line at o n) ≤ 21
byte_line_length at o n = rw (length-append (place at)) (omega (arith, place_length at))

byte_length : (every : Bool) (at o n : ℕ) → length (byte_heard every at o n) ≤ 21
unfolding byte_heard
byte_length every at o n = pick (tells every o n)
  where
    pick : (b : Bool) → length (cond b (byte_line at o n) []) ≤ 21
    pick true = byte_line_length at o n
    pick false = omega arith

pub lines_length : (every : Bool) (at : ℕ) (old new : List ℕ) (n : ℕ)
    → length (numbered (λ i. byte_heard every (at + i) (get_or old i 0) (get_or new i 0)) 0 n) ≤ 21 * n
unfolding numbered
lines_length every at old new zero = omega arith
lines_length every at old new (suc n) =
    rw (length-append (numbered (λ i. byte_heard every (at + i) (get_or old i 0) (get_or new i 0)) 0 n) (byte_heard every (at + (0 + n)) (get_or old (0 + n) 0) (get_or new (0 + n) 0)))
    (omega (arith, byte_length every (at + (0 + n)) (get_or old (0 + n) 0) (get_or new (0 + n) 0), lines_length every at old new n))

pub text_length : (at : ℕ) (a b : List ℕ) → length a ≤ 32 → length b ≤ 32 → length (text_line at a b) ≤ 81
text_length at a b h k =
    let l = length-append (place at) (or_nothing a ++ (becomes ++ (or_nothing b ++ (10 ∷ [])))) in
    let n = length-append (or_nothing a) (becomes ++ (or_nothing b ++ (10 ∷ []))) in
    let m = length-append (or_nothing b) (10 ∷ []) in
    omega (arith, place_length at, said_length a h, said_length b k)

-- a row, of which a and b are the texts
module _ (at : ℕ) (old new a b : List ℕ) (r : Bool) (e : a ≡ said old) (f : b ≡ said new) (g : r ≡ pointwise eqb a b) where
  told : same_bytes (said old) (said new) ≡ r
  told = rw (← e, ← f, g) (told_pointwise a b)

  pub by_bytes : r ≡ true → byte_lines true at old new ≡ heard at old new
  unfolding heard
  by_bytes h = rw (told, h)

  pub by_text : r ≡ false → text_line at a b ++ byte_lines false at old new ≡ heard at old new
  unfolding heard
  by_text h = rw (told, h, e, f)

pub lines_all : (every : Bool) (at : ℕ) (old new : List ℕ) (i : ℕ) → i ≡ row_bytes
    → numbered (λ j. byte_heard every (at + j) (get_or old j 0) (get_or new j 0)) 0 i ≡ byte_lines every at old new
lines_all every at old new i e = rw e

pub text_line_length : (at : ℕ) (a b old new : List ℕ) → a ≡ said old → b ≡ said new → length old ≡ row_bytes → length new ≡ row_bytes
    → length (text_line at a b) ≤ 81
text_line_length at a b old new e f h k =
    text_length at a b (omega (arith, ap length e, words_length 0 old)) (omega (arith, ap length f, words_length 0 new))
