-- Each branch is a test of the definition.
use mathlib.Core.Path.{sym, ◌∙◌}
use Rattle.recover_messages.proofs.Marks.{is_whole, is_torn, is_missing}
use Rattle.recover_messages.proofs.mark.MarkFromArrayU8MARKLEN.from.Goals as goal

pub returns-then-eq : goal.returns-then-eq
returns-then-eq c = is_whole _ c.if-eq.ensures

pub returns-then-contains : goal.returns-then-contains
returns-then-contains c = is_torn _ c.if-eq.ensures (sym c.contains.ensures.value ∙ c.if-contains.true)

pub returns-else-contains : goal.returns-else-contains
returns-else-contains c = is_missing _ c.if-eq.ensures (sym c.contains.ensures.value ∙ c.if-contains.false)
