-- The pieces of the line, one behind the other.
use Rattle.recover_text.proofs.Pieces.{puts_then}
use Rattle.recover_messages.proofs.message.failed.Goals as goal

pub returns : goal.returns
returns c = puts_then c.text.ensures (puts_then c.text-2.ensures c.reason.ensures)
