-- The counts of a comparison: a letter counts at its code modulo 64.
use Rattle.std.specs.Prelude.{ℕ, ◌+◌, ◌%◌, ◌^◌, Bool, cond, List, replicate, slice_index_or, slice_set}
use Rattle.lines.specs.declared.tally.Count.{Count}
use Rattle.lines.specs.declared.tally.Tally.{Tally}

abbrev pub count : ℕ → ℕ → Count
count a d = record { answers = a; differ = d }

abbrev pub tally : List Count → ℕ → Tally
tally c u = record { counts = c; unknown = u }

abbrev pub none : Tally
none = tally (replicate 64 (count 0 0)) 0

-- one more; a count has 64 bits
abbrev pub more : ℕ → ℕ
more n = (n + 1) % 2 ^ 64

-- an answer, and whether it is the Rust's
abbrev pub count_in : Count → Bool → Count
count_in c same = count (more c.answers) (cond same c.differ (more c.differ))

abbrev pub counted_in : Tally → ℕ → Bool → Tally
counted_in t letter same = tally (slice_set t.counts (letter % 64) (count_in (slice_index_or t.counts (letter % 64) (count 0 0)) same)) t.unknown

-- a line of no known form
abbrev pub strange_in : Tally → Tally
strange_in t = tally t.counts (more t.unknown)
