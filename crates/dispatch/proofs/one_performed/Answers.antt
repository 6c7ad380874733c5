-- The law is that of proofs/One.antt.
use Rattle.dispatch.proofs.One.{one_performed}
use Rattle.dispatch.proofs.one_performed.Goals as goal

pub returns : goal.returns
returns c = one_performed
