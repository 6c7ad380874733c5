-- The byte, then the group.
use native.Mathlib.Omega.{arith}
use Rattle.in_place.proofs.Images.{transfer_image}
use Rattle.in_place.proofs.transfers.put_written.Goals as goal

pub returns : goal.returns
returns c = transfer_image _ c.requires.0 _ (omega arith) c.args.written (omega arith) (omega arith, omega arith) c.requires.1 c.store.ensures c.put_hdma.ensures
