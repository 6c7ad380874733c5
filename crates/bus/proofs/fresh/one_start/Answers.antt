-- The law is that of proofs/One.antt.
use Rattle.bus.proofs.One.{one_start}
use Rattle.bus.proofs.fresh.one_start.Goals as goal

pub returns : goal.returns
returns c = one_start
