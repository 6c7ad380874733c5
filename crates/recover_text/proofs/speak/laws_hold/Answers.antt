-- The law.
use Rattle.recover_text.proofs.Heard.{every_change}
use Rattle.recover_text.proofs.speak.laws_hold.Goals as goal

pub returns : goal.returns
returns c = every_change
