-- Channels in range, packed.
use Rattle.image.proofs.ColorLaws.{channels_below}
use Rattle.image.proofs.colors.bytes_of.Goals as goal

pub pack_channels-requires : goal.pack_channels-requires
pack_channels-requires c = rw c.channels_of.ensures (channels_below c.args.colors c.requires)
