-- The laws.
use Rattle.recover_messages.proofs.Plays.{present, old_law}
use Rattle.recover_messages.proofs.Scans.{parts, whole, zeros, keeps}
use Rattle.recover_messages.proofs.journal.laws_hold.Goals as goal

pub returns : goal.returns
returns c = (parts, whole, zeros, keeps, present, old_law)
