-- The quick writes of src/lib.rt: which they are, and what the test of what is lent says. Nothing here need be believed: the contracts of the entries cite
-- specs/Entry.antt of crate entry alone.
use Rattle.std.specs.Prelude.{Bool, true, false, cond, List, ◌≡◌, ℕ, ◌≤◌, eqb}
use Rattle.image.specs.Layout.{used_field}
use Rattle.image.specs.Load.{at}
use Rattle.image.specs.Patches.{fields}
use Rattle.memory.specs.Ranges.{sound_len}
use Rattle.savelog.specs.Log.{log_limit, use_in_range}

-- an index whose write starts no transfer
unfoldable pub quick : ℕ → Bool
quick at = cond (eqb at 0xFF46) false (cond (eqb at 0xFF55) false true)

-- what the test of what is lent beside the image says
pub record LogFits (i : List ℕ) (m n : ℕ) : Type 0 where
  pub sound : m ≡ sound_len
  pub log : n ≤ log_limit
  pub used : use_in_range (at (fields i) used_field) n ≡ true
