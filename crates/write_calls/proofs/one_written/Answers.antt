-- The law is that of proofs/One.antt.
use Rattle.write_calls.proofs.One.{one_written}
use Rattle.write_calls.proofs.one_written.Goals as goal

pub returns : goal.returns
returns c = one_written
