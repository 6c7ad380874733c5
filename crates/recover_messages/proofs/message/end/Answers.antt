-- Each branch is a case of `end_line`.
use native.Mathlib.Omega.{arith}
use Rattle.recover_text.proofs.Pieces.{puts_as, puts_none}
use Rattle.recover_messages.proofs.Choice.{ends_in_zeros, ends_whole, ends_torn}
use Rattle.recover_messages.proofs.message.end.Goals as goal

pub returns-then-kept-s : goal.returns-then-kept-s
returns-then-kept-s c = puts_as (ends_in_zeros _ _ _ _ _ c.kept-kept.ensures.0 c.if-kept-s.true) c.left_out.ensures

pub returns-then-left-ne0 : goal.returns-then-left-ne0
returns-then-left-ne0 c = puts_as (ends_torn _ _ _ _ _ c.kept-kept.ensures.0 c.if-kept-s.false c.rest_of-left.ensures.0 c.if-left-ne0.true) c.left_out-then-left-ne0.ensures

pub returns-else-left-ne0 : goal.returns-else-left-ne0
returns-else-left-ne0 c = puts_as (ends_whole _ _ _ _ _ c.kept-kept.ensures.0 c.if-kept-s.false c.rest_of-left.ensures.0 c.if-left-ne0.false) (puts_none _ (omega arith))
