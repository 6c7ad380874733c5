-- A line where there is one to be told.
use mathlib.Core.Path.{sym}
use native.Mathlib.Omega.{arith}
use Rattle.recover_text.proofs.Hearing.{heard_line, heard_none}
use Rattle.recover_text.proofs.Pieces.{puts_none, puts_as}
use Rattle.recover_text.proofs.speak.byte_heard.Goals as goal

pub returns-then-tells : goal.returns-then-tells
returns-then-tells c = puts_as (heard_line _ _ _ _ (sym c.if-tells.ensures)) c.byte_line.ensures

pub returns-else-tells : goal.returns-else-tells
returns-else-tells c = puts_as (heard_none _ _ _ _ (sym c.if-tells.ensures)) (puts_none _ (omega arith))
