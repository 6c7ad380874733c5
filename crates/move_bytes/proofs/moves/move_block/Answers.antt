-- The block copied, then its registers (`block_moved`).
use Rattle.std.proofs.Common.{get_or, refl, ap, ◌∙◌, arith}
use Rattle.move_bytes.proofs.RowLaws.{lent_length}
use Rattle.move_bytes.proofs.MoveLaws.{source_sixteen, block_moved}
use Rattle.hdma.specs.declared.Hdma.{Hdma}
use Rattle.hdma.specs.Hdma.{source_used, destination_used, block_ended}
use Rattle.move_bytes.proofs.moves.move_block.Goals as goal

pub copy_all-requires : goal.copy_all-requires
copy_all-requires c = let D = c.destination_of-destination.ensures in let D₃ = D.3 in (c.requires, ((source_sixteen _ c.source_of-source.ensures, refl), (D.1, D.2, omega arith)))

pub bounds-image-341 : goal.bounds-image-341
bounds-image-341 c = omega (arith, lent_length c.requires)

pub put_ended-requires : goal.put_ended-requires
put_ended-requires c = lent_length c.requires

pub returns : goal.returns
returns c = block_moved c.requires (c.source_of-source.ensures ∙ ap source_used c.hdma_at-hdma.ensures) (c.destination_of-destination.ensures.0 ∙ ap destination_used c.hdma_at-hdma.ensures) c.copy_all.ensures (c.end_block-ended.ensures ∙ ap (λ (h : Hdma). block_ended h (get_or c.args.image.now 0x155 0)) c.hdma_at-hdma.ensures) c.put_ended.ensures
