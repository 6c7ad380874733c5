-- Each turn scans more; what is left of the length falls.
use Prim.Native.Nat.{◌-◌}
use Rattle.recover_messages.specs.Journal.{Bounded}
use Rattle.recover.proofs.journal.scan.Given as goal

abbrev pub invariant-loop-s : goal.invariant-loop-s
invariant-loop-s g l = Bounded l.s

abbrev pub decreases-loop-s : goal.decreases-loop-s
decreases-loop-s g l = l.len - l.s.len
