-- Each turn plays one part more, over a save that keeps its length; what is left of the log falls.
use mathlib.Core.Path.{refl}
use native.Mathlib.Omega.{arith}
use Rattle.recover_messages.proofs.Plays.{none_played, played_more}
use Rattle.recover.proofs.journal.play_all.Goals as goal

pub loop-s-init : goal.loop-s-init
loop-s-init g c = (c.unread-s.ensures.1, refl, rw c.unread-s.ensures.0 (none_played _ _ _))

pub loop-s-preserved : goal.loop-s-preserved
loop-s-preserved g c = let e = c.in_ok-s.ensures in (e.0, omega (arith, c.loop-s.invariant.1), played_more _ _ _ _ _ _ _ c.loop-s.invariant.2 e.2)
