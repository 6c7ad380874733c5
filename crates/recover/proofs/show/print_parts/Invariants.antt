-- Each turn prints the rows of one part more; those that are left fall.
use mathlib.Core.Path.{◌≡◌}
use Prim.Native.Nat.{◌-◌, ◌*◌, ◌≤◌}
use lib.ListN.{length}
use Rattle.recover_text.specs.Rows.{by_row, row_count}
use Rattle.recover_text.specs.Text.{numbered}
use Rattle.recover.proofs.show.print_parts.Given as goal

abbrev pub invariant-loop-from : goal.invariant-loop-from
invariant-loop-from g l =
    (l.from ≤ row_count l.saves.old.now) × (length l.out ≡ 65536) × (l.len ≤ 65536 * l.from) × (l.len ≡ length (numbered (by_row g.L.Lines.lines l.saves.old.now l.saves.new.now) 0 l.from))

abbrev pub decreases-loop-from : goal.decreases-loop-from
decreases-loop-from g l = row_count l.saves.old.now - l.from
