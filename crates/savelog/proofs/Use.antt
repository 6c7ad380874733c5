-- The log's use: whole records within the log, and one record more.
use mathlib.Core.Bool.{true, false}
use mathlib.Core.Path.{◌≡◌}
use mathlib.Core.List.{List, ◌∷◌, ◌++◌}
use Prim.Native.Nat.{ℕ, ◌+◌, ◌*◌, ◌%◌, ◌≤◌, ◌<◌}
use native.Mathlib.Omega.{arith}
use lib.Dec.{eqb, leb}
use lib.ListN.{length, take, drop, length-append, length-take, length-drop}
use lib.Seq.{take_at, drop_at, length-take-le}
use borrow.Author.Tests.{eqb-true, leb-true, eq-eqb, le-leb, ltb-true, ltb-false}
use Rattle.rules.proofs.Tests.{both_true}
use Rattle.savelog.specs.Log.{Form, Four, width, width_of, end_of, record_bytes, stored, records_by, appended, use_in_range, full}
use Rattle.savelog.proofs.Laws.{record_length, records_cons, round}

-- a use in range is whole records within the log, and the other way round
pub use_parts : (used len : ℕ) → use_in_range used len ≡ true → (used % width ≡ 0) × (used ≤ len)
unfolding use_in_range
use_parts used len e =
    let b = both_true (eqb (used % width) 0) (leb used len) e in
    (eqb-true (used % width) 0 b.0, leb-true used len b.1)

pub use_joins : (used len : ℕ) → used % width ≡ 0 → used ≤ len → use_in_range used len ≡ true
unfolding use_in_range
use_joins used len e h = rw (eq-eqb (used % width) 0 e, le-leb used len h)

-- what is in range for a log is so for a longer one
pub use_wider : (used len more : ℕ) → len ≤ more → use_in_range used len ≡ true → use_in_range used more ≡ true
use_wider used len more h e = let p = use_parts used len e in use_joins used more p.0 (omega (arith, p.1))

-- room for records is room for their bytes
pub has_room : (len used n : ℕ) → full len used n ≡ false → used + n * width ≤ len
has_room len used n f = ltb-false len (used + n * width) f

pub lacks_room : (len used n : ℕ) → full len used n ≡ true → len < used + n * width
lacks_room len used n t = ltb-true len (used + n * width) t

-- and with one record more a use stays in range
pub use_more : (used len : ℕ) → used + width ≤ len → use_in_range used len ≡ true → use_in_range (used + width) len ≡ true
use_more used len room e = use_joins (used + width) len (omega (arith, (use_parts used len e).0)) room

-- a record is put over as many bytes, and stands behind those that were used
pub appended_length : (l : List ℕ) (used a v : ℕ) → used + width ≤ length l → length (appended l used a v) ≡ length l
unfolding appended
appended_length l used a v h = rw (length-append, length-append, length-take, record_length, length-drop) (omega arith)

pub used_more : (l : List ℕ) (used a v : ℕ) → used + width ≤ length l → take (used + width) (appended l used a v) ≡ take used l ++ record_bytes Four a v
unfolding appended
used_more l used a v h =
    let t : length (take used l) ≡ used = length-take-le used l (omega arith) in
    let j : length (take used l ++ record_bytes Four a v) ≡ used + width = rw (length-append, t, record_length Four a v) in
    take_at (take used l ++ record_bytes Four a v) (drop (used + width) l) (used + width) j

-- a record in front of a log is read first
pub record_first : (f : Form) (a v : ℕ) (l : List ℕ) → v < 256 → a < end_of f → records_by f (record_bytes f a v ++ l) ≡ stored a v ∷ records_by f l
record_first f a v l h k =
    let b = record_length f a v in
    let n : width_of f ≤ length (record_bytes f a v ++ l) = rw (length-append, b) (omega arith) in
    rw (
      records_cons f (record_bytes f a v ++ l) n,
      take_at (record_bytes f a v) l (width_of f) b,
      drop_at (record_bytes f a v) l (width_of f) b,
      round f a v h k,
    )
