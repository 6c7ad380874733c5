-- By what crate hdma decided; monochrome stores the byte.
use Rattle.move_bytes.proofs.StartLaws.{decided, block_keeps, set_storable, set_wrote, block_wrote, general_wrote, plain_wrote}
use Rattle.move_bytes.proofs.RowLaws.{lent_length}
use borrow.Author.Tests.{not-true, not-false}
use Rattle.std.proofs.Common.{sym, refl, ◌∙◌, arith}
use Rattle.move_bytes.proofs.starts.start_hdma.Goals as goal

pub bounds-image-341 : goal.bounds-image-341
bounds-image-341 c = omega (arith, lent_length c.requires)

pub returns-then-not-is_colour : goal.returns-then-not-is_colour
returns-then-not-is_colour c = plain_wrote c.requires _ (sym c.is_colour.ensures ∙ not-true _ c.if-not-is_colour.true-raw) c.ranges.value.fits refl

pub put_written-requires : goal.put_written-requires
put_written-requires c = ((c.requires.bytes, c.requires.number), set_storable c.requires _ (sym c.is_colour.ensures ∙ not-false _ c.if-not-is_colour.false-raw) (decided _ _ _ _ _ c.do_cgb_dma.ensures c.hdma_at-hdma.ensures c.mode_at.ensures) c.in-Set.is)

pub put_block-requires : goal.put_block-requires
put_block-requires c = (c.requires, block_keeps _ _ _ (decided _ _ _ _ _ c.do_cgb_dma.ensures c.hdma_at-hdma.ensures c.mode_at.ensures) (sym c.is_colour.ensures ∙ not-false _ c.if-not-is_colour.false-raw) _ c.in-Block.is)

pub returns-in-Set : goal.returns-in-Set
returns-in-Set c = set_wrote c.requires _ (sym c.is_colour.ensures ∙ not-false _ c.if-not-is_colour.false-raw) (decided _ _ _ _ _ c.do_cgb_dma.ensures c.hdma_at-hdma.ensures c.mode_at.ensures) c.in-Set.is c.put_written.ensures

pub returns-in-Block : goal.returns-in-Block
returns-in-Block c = block_wrote c.requires _ (sym c.is_colour.ensures ∙ not-false _ c.if-not-is_colour.false-raw) (decided _ _ _ _ _ c.do_cgb_dma.ensures c.hdma_at-hdma.ensures c.mode_at.ensures) c.in-Block.is c.put_block.ensures

pub returns-in-General : goal.returns-in-General
returns-in-General c = general_wrote c.requires _ (sym c.is_colour.ensures ∙ not-false _ c.if-not-is_colour.false-raw) (decided _ _ _ _ _ c.do_cgb_dma.ensures c.hdma_at-hdma.ensures c.mode_at.ensures) c.in-General.is c.move_general.ensures
