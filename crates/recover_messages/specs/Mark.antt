-- The mark that a journal begins with since version 3 (c/pouch_bus.h), before its records of four bytes. The first byte of a record, old or new, is 128 or more, so
-- no record begins as the mark does.
use Rattle.std.specs.Prelude.{cond, List, [], ◌∷◌, ◌++◌, ℕ, ◌-◌, length, take}
use Rattle.recover_text.specs.Rows.{same_bytes}
use Rattle.recover_messages.specs.declared.mark.Mark.{Mark}
use Rattle.recover_messages.specs.declared.mark.Mark.TheVariants.{Whole, Torn, Missing}

-- "PL4" and a line feed
abbrev pub mark : List ℕ
mark = 80 ∷ 76 ∷ 52 ∷ 10 ∷ []

-- Its first n bytes, and zeros for the others: what is left where the host or the machine failed while it was written. A file that ends earlier counts as zeros.
abbrev pub begun : ℕ → List ℕ
begun n = take n mark ++ take (length mark - n) (0 ∷ 0 ∷ 0 ∷ 0 ∷ [])

-- what the first four bytes of a file are
unfoldable pub mark_of : List ℕ → Mark
mark_of first =
    cond (same_bytes first mark) Whole
    (cond (same_bytes first (begun 3)) Torn
    (cond (same_bytes first (begun 2)) Torn
    (cond (same_bytes first (begun 1)) Torn
    (cond (same_bytes first (begun 0)) Torn Missing))))
