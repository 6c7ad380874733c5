-- By the form's width.
use Rattle.recover_messages.proofs.Scans.{bytes_fit}
use Rattle.recover_messages.proofs.journal.bytes_of.Goals as goal

pub overflow_mul-result : goal.overflow_mul-result
overflow_mul-result c = rw c.len.ensures (record { fits = bytes_fit c.args.form c.args.n c.requires })

pub returns : goal.returns
returns c = rw c.len.ensures
