-- One digest of the parts, one after the other.
use Rattle.bus_host.proofs.Digests.{digest_lent}
use Rattle.bus_host.proofs.digest.of_memories.Goals as goal

pub returns : goal.returns
returns c =
    let a = c.args in
    rw (c.of_log.ensures, c.of_bytes-h-3.ensures, c.of_bytes-h-2.ensures, c.of_bytes-h.ensures)
    (digest_lent _ _ (rw c.of-there.ensures at c.lengths_in-n.ensures.0) a.memory a.vram.now a.wram.now a.save.now a.log.now)
