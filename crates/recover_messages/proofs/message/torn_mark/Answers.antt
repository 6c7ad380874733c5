-- Each branch is a case of `torn_mark_line`.
use native.Mathlib.Omega.{arith}
use Rattle.recover_text.proofs.Pieces.{puts_as, puts_none}
use Rattle.recover_messages.proofs.Choice.{empty_file, mark_torn}
use Rattle.recover_messages.proofs.message.torn_mark.Goals as goal

pub returns-then-len-ne0 : goal.returns-then-len-ne0
returns-then-len-ne0 c = puts_as (mark_torn _ _ c.if-len-ne0.true) c.left_out.ensures

pub returns-else-len-ne0 : goal.returns-else-len-ne0
returns-else-len-ne0 c = puts_as (empty_file _ _ c.if-len-ne0.false) (puts_none _ (omega arith))
