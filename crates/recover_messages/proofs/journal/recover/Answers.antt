-- Each form is a case.
use mathlib.Core.Path.{sym, ap, ◌∙◌}
use Rattle.recover_messages.proofs.Plays.{present}
use Rattle.recover_messages.specs.Journal.{part_limit}
use Rattle.recover_messages.proofs.journal.recover.Goals as goal

pub recover_old-requires : goal.recover_old-requires
recover_old-requires c = (c.requires.0, rw (ap part_limit c.in-Three.is) at c.requires.1)

pub returns-in-Three : goal.returns-in-Three
returns-in-Three c = rw c.in-Three.is c.recover_old.ensures

pub returns-in-Four : goal.returns-in-Four
returns-in-Four c = rw c.in-Four.is (c.recover.ensures ∙ sym (present _ _))
