-- By its case.
use Rattle.host.proofs.mapper.record_stored.Goals as goal

pub returns : goal.returns
returns c = rw (c.record_number.ensures, c.in-Some.is)
