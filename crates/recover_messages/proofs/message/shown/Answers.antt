-- The pieces of the line, one behind the other.
use Rattle.recover_text.proofs.Pieces.{puts_then}
use Rattle.recover_messages.proofs.message.shown.Goals as goal

pub returns : goal.returns
returns c = puts_then c.recovered.ensures.0 c.text.ensures
