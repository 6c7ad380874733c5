-- By what crate hdma decided; monochrome stores the byte.
use Rattle.in_place.proofs.Images.{held, set_storable, set_written, start_written, start_stored}
use Rattle.in_place.proofs.transfers.write_start.Goals as goal

pub put_written-requires : goal.put_written-requires
put_written-requires c = (c.requires, set_storable _ c.requires _ c.is_colour.ensures c.if-is_colour.true c.hdma_at.ensures c.mode_at.ensures c.do_cgb_dma.ensures c.in-Set.is)

pub returns-in-Set : goal.returns-in-Set
returns-in-Set c = set_written _ c.requires _ c.is_colour.ensures c.if-is_colour.true c.hdma_at.ensures c.mode_at.ensures c.do_cgb_dma.ensures c.in-Set.is c.put_written.ensures

pub returns-in-General : goal.returns-in-General
returns-in-General c = start_written _ c.requires _ c.is_colour.ensures _ c.if-is_colour.true c.hdma_at.ensures c.mode_at.ensures c.do_cgb_dma.ensures c.in-General.is (held _ c.requires).same

pub returns-else-is_colour : goal.returns-else-is_colour
returns-else-is_colour c = start_stored _ c.requires _ c.is_colour.ensures c.if-is_colour.false c.store.ensures
