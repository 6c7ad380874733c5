-- FF46 keeps the page, and FF55 is what `started` says.
use Rattle.registers.specs.Register.{register_of, byte_as}
use Rattle.registers.specs.Transfers.{copy_of}
use Rattle.registers.proofs.transfers.start_transfer.Goals as goal

pub returns-then-index-eq65350 : goal.returns-then-index-eq65350
unfolding register_of byte_as copy_of
returns-then-index-eq65350 c = ((rw (c.if-index-eq65350.true, c.store.ensures), rw (c.if-index-eq65350.true, c.oam_copy.ensures.0)), c.oam_copy.ensures.1)

pub returns-else-index-eq65350 : goal.returns-else-index-eq65350
unfolding register_of copy_of
returns-else-index-eq65350 c = let e = c.requires c.if-index-eq65350.false in ((rw (e, c.do_cgb_dma.ensures.0), rw (e, c.do_cgb_dma.ensures.0)), c.do_cgb_dma.ensures.1)
