-- The word for none where there is no text.
use mathlib.Core.Path.{sym}
use borrow.Author.Tests.{eqb-true, eqb-false}
use Rattle.recover_text.proofs.Hearing.{says_nothing, says_text}
use Rattle.recover_text.proofs.Pieces.{puts_as}
use Rattle.recover_text.proofs.speak.or_nothing.Goals as goal

pub returns-then-is_empty : goal.returns-then-is_empty
returns-then-is_empty c = puts_as (says_nothing _ (eqb-true _ 0 (sym c.if-is_empty.ensures))) c.text.ensures

pub returns-else-is_empty : goal.returns-else-is_empty
returns-else-is_empty c = puts_as (says_text _ (eqb-false _ 0 (sym c.if-is_empty.ensures))) c.text-else-is_empty.ensures
