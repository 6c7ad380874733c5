-- Each branch is a case of `byte_scanned`.
use borrow.Author.Tests.{eq-eqb, ne_eqb}
use Rattle.recover_messages.specs.Journal.{byte_scanned}
use Rattle.recover_messages.proofs.journal.after.Goals as goal

pub returns-then-b-eq0 : goal.returns-then-b-eq0
unfolding byte_scanned
returns-then-b-eq0 c = rw (eq-eqb _ 0 c.if-b-eq0.true)

pub returns-else-b-eq0 : goal.returns-else-b-eq0
unfolding byte_scanned
returns-else-b-eq0 c = rw (ne_eqb _ 0 c.if-b-eq0.false)
