-- The laws are those of proofs/Video.antt and proofs/Sprites.antt.
use Rattle.corners.proofs.Sprites.{sprites}
use Rattle.corners.proofs.Video.{transfer_leaves, in_bank}
use Rattle.corners.proofs.transfers_hold.Goals as goal

pub returns : goal.returns
returns c = (transfer_leaves, in_bank, sprites)
