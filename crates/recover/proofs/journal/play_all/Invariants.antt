-- Each turn plays one part more, over a save that keeps its length; what is left of the log falls.
use mathlib.Core.Path.{◌≡◌}
use Prim.Native.Nat.{◌-◌}
use lib.ListN.{length}
use Rattle.recover_messages.specs.Journal.{Bounded, Played}
use Rattle.recover.proofs.journal.play_all.Given as goal

abbrev pub invariant-loop-s : goal.invariant-loop-s
invariant-loop-s g l = Bounded l.s × (length l.save ≡ length l.initial.save) × Played l.log.form l.kept l.s l.initial.save l.save

abbrev pub decreases-loop-s : goal.decreases-loop-s
decreases-loop-s g l = l.first.len - l.s.len
