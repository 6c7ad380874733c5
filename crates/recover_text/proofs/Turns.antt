-- The rows by parts: it stops at the last row, or where there is no room for one row more.
use mathlib.Core.Path.{◌≡◌}
use mathlib.Core.List.{List}
use Prim.Native.Nat.{ℕ, ◌+◌, ◌-◌, ◌≤◌, ◌<◌}
use native.Mathlib.Decide.{dec_lt}
use native.Mathlib.Omega.{arith}
use lib.ListN.{length}
use Rattle.recover_text.specs.Text.{Put, numbered}
use Rattle.recover_text.specs.Rows.{row_count, Shows}
use Rattle.recover_text.proofs.Pieces.{kept_length, numbered_none, named}

module _ (lines : List ℕ → List ℕ → ℕ → List ℕ) (room : ℕ) (old new : List ℕ) (from : ℕ) (o o' : List ℕ) (k end : ℕ)
    (inside : from ≤ row_count old)
    (rows : (from ≤ k) × (k ≤ row_count old))
    (full : end + room ≤ length o' → k ≡ row_count old)
    (text : Put o 0 (numbered (lines old new) from (k - from)) o' end) where
  -- with room for a row, and a row to begin with, it moves
  moved : Dec (from < k) → room ≤ length o → from < row_count old → from < k
  moved (yes h) r f = h
  moved (no g) r f =
      let n = numbered_none (lines old new) from k (omega (arith, g)) in
      let e = (named n text).ends in
      let s = full (omega (arith, kept_length text)) in
      omega (arith, rows.0)

  pub shows : Shows lines room old new from o o' (record { next = k; len = end })
  shows =
      record {
        onward = rows.0;
        within = rows.1;
        text = text;
        full = λ f. full (omega (arith, kept_length text));
        moves = moved (dec_lt from k);
      }
