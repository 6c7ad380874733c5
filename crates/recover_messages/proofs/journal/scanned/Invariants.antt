-- What is left of the part gives, over the scan so far, what all of it gives: each turn takes one byte.
use mathlib.Core.Path.{◌≡◌}
use Prim.Native.Nat.{◌+◌, ◌≤◌}
use lib.ListN.{drop}
use Rattle.recover_messages.specs.Journal.{scanned}
use Rattle.recover_messages.proofs.journal.scanned.Given as goal

abbrev pub invariant-loop-b : goal.invariant-loop-b
invariant-loop-b l = (scanned l.initial.next l.part ≡ scanned l.next (drop l.b-index l.part)) × (l.next.end ≤ l.next.len) × (l.next.len ≡ l.initial.next.len + l.b-index)
