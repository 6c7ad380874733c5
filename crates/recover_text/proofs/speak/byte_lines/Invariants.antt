-- The lines of the bytes so far are put, and the rows' other bytes are left; each turn puts those of one more behind them.
use mathlib.Core.Path.{◌≡◌}
use Prim.Native.Nat.{◌+◌, ◌≤◌}
use lib.ListN.{get_or, drop}
use Rattle.recover_text.specs.Rows.{row_bytes}
use Rattle.recover_text.specs.Speak.{byte_heard}
use Rattle.recover_text.specs.Text.{numbered}
use Rattle.recover_text.specs.Page.{Puts}
use Rattle.recover_text.proofs.speak.byte_lines.Given as goal

abbrev pub invariant-loop-i : goal.invariant-loop-i
invariant-loop-i l =
    let k = l.i-iterator.count in
    (l.i-iterator.iter.a.rest.now ≡ drop k l.old)
    × (l.i-iterator.iter.b.rest.now ≡ drop k l.new)
    × (k ≤ row_bytes)
    × Puts l.initial.page (numbered (λ j. byte_heard l.every (l.at + j) (get_or l.old j 0) (get_or l.new j 0)) 0 k) l.page
