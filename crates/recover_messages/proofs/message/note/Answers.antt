-- The name, and what it is told for.
use Rattle.recover_text.proofs.Pieces.{puts_then}
use Rattle.recover_messages.proofs.message.note.Goals as goal

pub returns : goal.returns
returns c = puts_then c.text.ensures c.reason.ensures
