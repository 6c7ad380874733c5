-- By the two tests, then by the region: lent, the image's own, or another.
use Rattle.take_bytes.proofs.ByteLaws.{ready_reached, rom_near, near_of}
use Rattle.take_bytes.proofs.one_at.Goals as goal

pub lent_at-requires : goal.lent_at-requires
lent_at-requires c = (ready_reached _ c.requires.0 (λ k. (c.shared_slice_known-1.given k).fits) c.requires.1, rom_near _ c.if-index-lt-VRAM_START.true)

pub lent_at-requires-in-Rom : goal.lent_at-requires-in-Rom
lent_at-requires-in-Rom c = (ready_reached _ c.requires.0 (λ k. (c.shared_slice_known-1.given k).fits) c.requires.1, near_of c.region_of.ensures c.in-Rom.is)
