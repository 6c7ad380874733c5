-- The laws.
use Rattle.recover_text.proofs.Heard.{parts}
use Rattle.recover_text.proofs.Whole.{rows_are_all}
use Rattle.recover_text.proofs.rows.laws_hold.Goals as goal

pub returns : goal.returns
returns c = (parts, rows_are_all)
