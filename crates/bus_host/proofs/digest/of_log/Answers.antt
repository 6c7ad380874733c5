-- As many bytes as are used, and as there are.
use Rattle.bus_host.specs.Digest.{digest}
use Rattle.bus_host.proofs.Digests.{smaller_min}
use Rattle.bus_host.proofs.digest.of_log.Goals as goal

pub returns : goal.returns
unfolding digest
returns c = rw (c.of_bytes.ensures, c.of_word.ensures, c.min-n.ensures, c.from.ensures, smaller_min)
