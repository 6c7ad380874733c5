-- No page, or its bytes read, and pasted (`oam_moved`).
use Rattle.move_bytes.proofs.RowLaws.{lent_length}
use Rattle.move_bytes.proofs.MoveLaws.{oam_row, oam_none, oam_moved}
use Rattle.std.proofs.Common.{arith}
use Rattle.move_bytes.proofs.moves.move_oam.Goals as goal

pub returns-then-copy-eq0 : goal.returns-then-copy-eq0
returns-then-copy-eq0 c = oam_none c.requires _ c.oam_copy-copy.ensures.0 c.if-copy-eq0.true

pub read-requires : goal.read-requires
read-requires c = (c.requires, oam_row _ c.oam_copy-copy.ensures.0 c.if-copy-eq0.false)

pub put-requires : goal.put-requires
put-requires c = omega (arith, lent_length c.requires, c.read.auto.out)

pub returns : goal.returns
returns c = oam_moved c.requires _ c.oam_copy-copy.ensures.0 c.if-copy-eq0.false c.read.new.out c.read.auto.out c.read.ensures c.put.ensures (λ k. (c.slice_known-2-1.given k).fits)
