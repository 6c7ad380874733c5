-- The laws of the rows: parts one after the other are the whole; a row that changed is heard, and no other.
use mathlib.Core.Bool.{Bool, true, false, cond}
use mathlib.Core.Path.{◌≡◌, refl, sym, ap, ◌∙◌}
use mathlib.Core.List.{List, [], ◌∷◌, ◌++◌, append_assoc, append-nil}
use Prim.Native.Nat.{ℕ, zero, suc, ◌+◌, ◌<◌}
use native.Mathlib.Decide.{dec_lt}
use native.Mathlib.Omega.{arith}
use lib.Dec.{eqb}
use lib.ListN.{length, get_or, length-append}
use lib.Seq.{ext_get_or}
use borrow.Author.Tests.{eq-eqb, eqb-true}
use Rattle.rules.proofs.Tests.{untrue}
use Rattle.recover_text.specs.Text.{numbered, address_text}
use Rattle.recover_text.specs.Rows.{row_bytes, same_bytes, PartsLaw}
use Rattle.recover_text.specs.Speak.{said, text_line, byte_line, tells, byte_heard, byte_lines, heard, HeardLaw}
use Rattle.recover_text.proofs.Lines.{address_length}
use Rattle.recover_text.proofs.Same.{told_same}

pub parts : PartsLaw
unfolding numbered
parts f from n zero = let e : n + 0 ≡ n = omega arith in rw e (sym (append-nil (numbered f from n)))
parts f from n (suc m) =
    let e : n + suc m ≡ suc (n + m) = omega arith in
    let g : from + (n + m) ≡ from + n + m = omega arith in
    rw (e, parts f from n m, g, append_assoc (numbered f from n) (numbered f (from + n) m) (f (from + n + m)))

-- a joined text is empty only where both are
both_empty : (a b : List ℕ) → a ++ b ≡ [] → (a ≡ []) × (b ≡ [])
both_empty [] b e = (refl, e)
both_empty (x ∷ a) b e = absurd (let l : length (x ∷ (a ++ b)) ≡ 0 = ap length e in omega arith)

silent_more : (f : ℕ → List ℕ) (n i : ℕ) → ((j : ℕ) → j < n → f (0 + j) ≡ []) → f (0 + n) ≡ [] → i < suc n → Dec (i < n) → f (0 + i) ≡ []
silent_more f n i h e l (yes g) = h i g
silent_more f n i h e l (no g) = let q : i ≡ n = omega (arith, g) in rw q e

silent : (f : ℕ → List ℕ) (n : ℕ) → numbered f 0 n ≡ [] → (i : ℕ) → i < n → f (0 + i) ≡ []
unfolding numbered
silent f zero e i h = absurd (omega arith)
silent f (suc n) e i h =
    let t = both_empty (numbered f 0 n) (f (0 + n)) e in
    silent_more f n i (silent f n t.0) t.1 h (dec_lt i n)

all_silent : (f : ℕ → List ℕ) (n : ℕ) → ((i : ℕ) → f i ≡ []) → numbered f 0 n ≡ []
unfolding numbered
all_silent f zero h = refl
all_silent f (suc n) h = rw (all_silent f n h, h (0 + n))

untold : (b : Bool) → cond b false true ≡ false → b ≡ true
untold true e = refl
untold false e = untrue (sym e)

not_told : (o n : ℕ) → tells true o n ≡ false → o ≡ n
unfolding tells
not_told o n e = eqb-true o n (untold (eqb o n) e)

-- what begins with an address is not empty
not_silent : (at : ℕ) (a b : List ℕ) → (address_text at ++ a) ++ b ≡ [] → ⊥
not_silent at a b e =
    let l : length ((address_text at ++ a) ++ b) ≡ 0 = ap length e in
    let m = length-append (address_text at ++ a) b in
    let n = length-append (address_text at) a in
    omega (arith, (address_length at).0)

silent_line : (t : Bool) (at o n : ℕ) → cond t (byte_line at o n) [] ≡ [] → t ≡ false
silent_line true at o n e = absurd (not_silent at _ _ e)
silent_line false at o n e = refl

silent_byte : (at o n : ℕ) → byte_heard true at o n ≡ [] → o ≡ n
unfolding byte_heard
silent_byte at o n e = not_told o n (silent_line (tells true o n) at o n e)

same_byte : (at o : ℕ) → byte_heard true at o o ≡ []
unfolding byte_heard tells
same_byte at o = rw (eq-eqb o o refl)

silent_row : (b : Bool) (at : ℕ) (old new : List ℕ) → length old ≡ row_bytes → length new ≡ row_bytes
    → cond b (byte_lines true at old new) (text_line at (said old) (said new) ++ byte_lines false at old new) ≡ [] → old ≡ new
silent_row true at old new h k e =
    ext_get_or 0 old new (h ∙ sym k)
    (λ i l.
    let z : 0 + i ≡ i = omega arith in
    silent_byte (at + i) (get_or old i 0) (get_or new i 0)
    (rw z at (silent (λ j. byte_heard true (at + j) (get_or old j 0) (get_or new j 0)) row_bytes e i (omega arith))))
silent_row false at old new h k e =
    let t = both_empty (text_line at (said old) (said new)) (byte_lines false at old new) e in
    absurd (not_silent at _ _ t.0)

silent_same : (at : ℕ) (old new : List ℕ) → old ≡ new → heard at old new ≡ []
unfolding heard
silent_same at old new e =
    rw (e, told_same (said new) (said new) refl)
    (all_silent (λ j. byte_heard true (at + j) (get_or new j 0) (get_or new j 0)) row_bytes (λ i. same_byte (at + i) (get_or new i 0)))

pub every_change : HeardLaw
unfolding heard
every_change at old new h k = (silent_row (same_bytes (said old) (said new)) at old new h k, silent_same at old new)
