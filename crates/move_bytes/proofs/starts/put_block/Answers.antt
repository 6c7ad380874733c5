-- The registers put, then a block from there (`written_moved`).
use Rattle.move_bytes.proofs.StartLaws.{written_storable, written_own, written_moved}
use Rattle.move_bytes.proofs.starts.put_block.Goals as goal

pub put_written-requires : goal.put_written-requires
put_written-requires c = ((c.requires.0.bytes, c.requires.0.number), written_storable c.requires.0 _ c.requires.1)

pub move_block-requires : goal.move_block-requires
move_block-requires c = written_own c.requires.0 _ c.requires.1 c.put_written.ensures

pub returns : goal.returns
returns c = written_moved c.requires.0 _ c.requires.1 c.put_written.ensures c.move_block.ensures
