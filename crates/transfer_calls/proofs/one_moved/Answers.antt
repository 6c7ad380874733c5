-- The law is that of proofs/One.antt.
use Rattle.transfer_calls.proofs.One.{one_moved}
use Rattle.transfer_calls.proofs.one_moved.Goals as goal

pub returns : goal.returns
returns c = one_moved
