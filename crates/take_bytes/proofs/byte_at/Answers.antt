-- By the region: lent, or another.
use Rattle.take_bytes.proofs.ByteLaws.{ready_reached, near_left}
use Rattle.take_bytes.proofs.byte_at.Goals as goal

pub lent_at-requires : goal.lent_at-requires
lent_at-requires c = (ready_reached _ c.requires.0 (λ k. (c.shared_slice_known-1.given k).fits) c.requires.1, near_left c.region_of.ensures c.in_default.not-Save c.in_default.not-Oam c.in_default.not-Page)
