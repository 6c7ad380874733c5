-- FF46: the byte, then OAM DMA from there; or FF55.
use Rattle.move_bytes.proofs.StartLaws.{page_own, page_wrote, wrote_at}
use Rattle.move_bytes.proofs.RowLaws.{lent_length}
use Rattle.std.proofs.Common.{refl, arith}
use Rattle.move_bytes.proofs.starts.start.Goals as goal

pub bounds-image-326 : goal.bounds-image-326
bounds-image-326 c = omega (arith, lent_length c.requires.0)

pub move_oam-requires : goal.move_oam-requires
move_oam-requires c = page_own c.requires.0 _ c.ranges.value.fits refl

pub returns-then-index-eq65350 : goal.returns-then-index-eq65350
returns-then-index-eq65350 c = wrote_at _ _ _ _ _ _ 0xFF46 _ _ _ c.if-index-eq65350.true (page_wrote c.requires.0 _ c.ranges.value.fits refl c.move_oam.ensures)
