-- An address: four digits or five. A row's lines: none where nothing changed, else two of 75 bytes at most.
use mathlib.Core.Bool.{Bool, true, false, cond}
use mathlib.Core.Path.{◌≡◌}
use mathlib.Core.List.{List, [], ◌∷◌, ◌++◌}
use Prim.Native.Nat.{ℕ, ◌+◌, ◌-◌, ◌*◌, ◌/◌, ◌%◌, ◌≤◌, ◌<◌}
use native.Mathlib.Omega.{arith}
use lib.Dec.{ltb, eqb}
use lib.ListN.{length, length-append}
use lib.Pointwise.{pointwise}
use borrow.Author.Tests.{lt-ltb, le-ltb}
use Rattle.lines.specs.Text.{hex_digit, index_text}
use Rattle.recover_text.specs.Text.{address_text, hexes, shown_all, spaced, shown}
use Rattle.recover_text.specs.Rows.{row_bytes, row_line, changed_lines}
use Rattle.recover_text.proofs.Pieces.{texts_length}
use Rattle.recover_text.proofs.Digits.{spaced_length, shown_length}
use Rattle.recover_text.proofs.Same.{told_pointwise}

-- which digits, and how many
pub four_digits : (at : ℕ) → at < 65536 → index_text at ≡ address_text at
unfolding address_text
four_digits at h = rw (lt-ltb at 65536 h)

pub five_digits : (at d : ℕ) → 65536 ≤ at → d ≡ hex_digit (at / 65536) → d ∷ index_text (at % 65536) ≡ address_text at
unfolding address_text
five_digits at d h e = rw (le-ltb at 65536 h, e)

pub address_length : (at : ℕ) → (4 ≤ length (address_text at)) × (length (address_text at) ≤ 5)
unfolding address_text
address_length at = pick (ltb at 65536)
  where
    pick : (b : Bool) → (4 ≤ length (cond b (index_text at) (hex_digit (at / 65536) ∷ index_text (at % 65536))))
        × (length (cond b (index_text at) (hex_digit (at / 65536) ∷ index_text (at % 65536))) ≤ 5)
    pick true = (omega arith, omega arith)
    pick false = (omega arith, omega arith)

pub unchanged_lines : (at : ℕ) (old new : List ℕ) → pointwise eqb old new ≡ true → [] ≡ changed_lines at old new
unfolding changed_lines
unchanged_lines at old new h = rw (told_pointwise old new, h)

pub changed_lines_law : (at : ℕ) (old new : List ℕ) → pointwise eqb old new ≡ false → row_line 45 at old ++ row_line 43 at new ≡ changed_lines at old new
unfolding changed_lines
changed_lines_law at old new h = rw (told_pointwise old new, h)

pub line_length : (sign at : ℕ) (row : List ℕ) → length row ≡ row_bytes → length (row_line sign at row) ≤ 75
line_length sign at row e =
    let h = texts_length spaced 3 spaced_length row in
    let s = texts_length (λ b. shown b ∷ []) 1 shown_length row in
    let a = length-append (hexes row) ((32 ∷ 32 ∷ []) ++ (shown_all row ++ (10 ∷ []))) in
    let b = length-append (shown_all row) (10 ∷ []) in
    let c = length-append (address_text at) (32 ∷ []) in
    let d = length-append (address_text at ++ (32 ∷ [])) (hexes row ++ ((32 ∷ 32 ∷ []) ++ (shown_all row ++ (10 ∷ [])))) in
    omega (arith, (address_length at).1)

-- the bytes of row k
pub row_bytes_law : (k : ℕ) → k * row_bytes + row_bytes - k * row_bytes ≡ row_bytes
row_bytes_law k = omega arith
