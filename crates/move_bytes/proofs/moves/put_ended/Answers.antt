-- Five bytes set, then the addresses.
use Rattle.move_bytes.specs.Transfers.{ended_put}
use Rattle.move_bytes.proofs.moves.put_ended.Goals as goal

pub returns : goal.returns
unfolding ended_put
returns c = c.put_hdma.ensures
