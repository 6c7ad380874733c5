-- How long all rows' texts are. And the rows of whole rows are all of a save.
use mathlib.Core.Bool.{Bool, true, false, cond}
use mathlib.Core.Path.{◌≡◌, refl, ◌∙◌}
use mathlib.Core.List.{List, [], ◌++◌}
use Prim.Native.Nat.{ℕ, zero, suc, ◌+◌, ◌*◌, ◌≤◌, ◌<◌}
use native.Mathlib.Nat.{mul-suc, mul-zero}
use native.Mathlib.Omega.{arith}
use lib.ListN.{length, take, drop, length-append, length-drop}
use lib.Seq.{length-take-le, take_all, take-add}
use Rattle.recover_text.specs.Text.{numbered}
use Rattle.recover_text.specs.Rows.{row_bytes, row, row_count, row_line, same_bytes, changed_lines, row_lines, row_room, Rows, RowsLaw}
use Rattle.recover_text.specs.Speak.{said, text_line, byte_lines, heard, row_heard, heard_room}
use Rattle.recover_text.specs.Report.{hex_rows, heard_rows, report}
use Rattle.recover_text.proofs.Lines.{line_length}
use Rattle.recover_text.proofs.Hearing.{lines_length, text_line_length}

-- texts of at most `room` bytes each
numbered_length : (f : ℕ → List ℕ) (room n : ℕ) → ((k : ℕ) → k < n → length (f k) ≤ room) → length (numbered f 0 n) ≤ room * n
unfolding numbered
numbered_length f room zero h = rw (mul-zero room) (omega arith)
numbered_length f room (suc n) h =
    let z : 0 + n ≡ n = omega arith in
    rw (length-append (numbered f 0 n) (f (0 + n)), mul-suc room n, z)
    (omega (arith, h n (omega arith), numbered_length f room n (λ k l. h k (omega arith))))

-- a row's length, and its texts'
row_is : (k : ℕ) (s : List ℕ) → k < row_count s → length (row k s) ≡ row_bytes
row_is k s h = let d = length-drop (k * row_bytes) s in length-take-le row_bytes (drop (k * row_bytes) s) (omega arith)

module _ (old new : List ℕ) (rows : Rows old new 0) (k : ℕ) (h : k < row_count old) where
  old_row : length (row k old) ≡ row_bytes
  old_row = row_is k old h

  new_row : length (row k new) ≡ row_bytes
  new_row = row_is k new (omega (arith, rows.same))

  pub lines_fit : length (row_lines old new k) ≤ row_room
  unfolding changed_lines
  lines_fit = pick (same_bytes (row k old) (row k new))
    where
      pick : (b : Bool) → length (cond b [] (row_line 45 (k * row_bytes) (row k old) ++ row_line 43 (k * row_bytes) (row k new))) ≤ row_room
      pick true = omega arith
      pick false =
          rw (length-append (row_line 45 (k * row_bytes) (row k old)) (row_line 43 (k * row_bytes) (row k new)))
          (omega (arith, line_length 45 (k * row_bytes) (row k old) old_row, line_length 43 (k * row_bytes) (row k new) new_row))

  pub heard_fits : length (row_heard old new k) ≤ heard_room
  unfolding heard
  heard_fits = pick (same_bytes (said (row k old)) (said (row k new)))
    where
      pick : (b : Bool) → length (cond b (byte_lines true (k * row_bytes) (row k old) (row k new))
          (text_line (k * row_bytes) (said (row k old)) (said (row k new)) ++ byte_lines false (k * row_bytes) (row k old) (row k new))) ≤ heard_room
      pick true = omega (arith, lines_length true (k * row_bytes) (row k old) (row k new) row_bytes)
      pick false =
          rw (length-append (text_line (k * row_bytes) (said (row k old)) (said (row k new))) (byte_lines false (k * row_bytes) (row k old) (row k new)))
          (omega (
            arith,
            text_line_length (k * row_bytes) (said (row k old)) (said (row k new)) (row k old) (row k new) refl refl old_row new_row,
            lines_length false (k * row_bytes) (row k old) (row k new) row_bytes,
          ))

pub hex_length : (old new : List ℕ) → Rows old new 0 → length (hex_rows old new) ≤ row_room * row_count old
hex_length old new rows = numbered_length (row_lines old new) row_room (row_count old) (lines_fit old new rows)

pub heard_length : (old new : List ℕ) → Rows old new 0 → length (heard_rows old new) ≤ heard_room * row_count old
heard_length old new rows = numbered_length (row_heard old new) heard_room (row_count old) (heard_fits old new rows)

pub heard_alone : (speak : Bool) (old new : List ℕ) → speak ≡ true → heard_rows old new ≡ report speak old new
unfolding report
heard_alone speak old new e = rw e

pub with_rows : (speak : Bool) (old new : List ℕ) → speak ≡ false → hex_rows old new ++ heard_rows old new ≡ report speak old new
unfolding report
with_rows speak old new e = rw e

-- the first rows are the first bytes
first_rows : (s : List ℕ) (n : ℕ) → numbered (λ k. row k s) 0 n ≡ take (n * row_bytes) s
unfolding numbered
first_rows s zero = refl
first_rows s (suc n) =
    let z : 0 + n ≡ n = omega arith in
    let e : suc n * row_bytes ≡ n * row_bytes + row_bytes = omega arith in
    rw (first_rows s n, z, e, take-add (n * row_bytes) row_bytes s)

pub rows_are_all : RowsLaw
rows_are_all s e = first_rows s (row_count s) ∙ take_all (row_count s * row_bytes) s (omega arith)
