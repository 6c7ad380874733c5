-- The call on the first parts, seen from the whole memories.
use Rattle.std.proofs.Common.{arith}
use Rattle.bus_host.proofs.Parts.{lent_step}
use Rattle.bus_host.proofs.host.perform.Goals as goal

pub returns : goal.returns
returns c =
    let n = rw c.of-there.ensures at c.lengths_in-n.ensures in
    lent_step _ _ n.0 _ _ _ _ _ _ _ _ _ _ _ _ _ _ _ n.1.1.0 n.1.1.1.0 n.1.1.1.1 (omega arith) (omega arith) (omega arith) c.perform.ensures
