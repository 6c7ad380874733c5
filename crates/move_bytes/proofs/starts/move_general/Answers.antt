-- The blocks copied, then the registers (`general_moved`).
use Rattle.move_bytes.proofs.RowLaws.{lent_length}
use Rattle.move_bytes.proofs.MoveLaws.{source_sixteen, landing_sixteen, general_moved}
use Rattle.hdma.specs.declared.Hdma.{Hdma}
use Rattle.hdma.specs.Hdma.{source_used, destination_used, general_ended}
use Rattle.std.proofs.Common.{ap, ◌∙◌}
use Rattle.move_bytes.proofs.starts.move_general.Goals as goal

pub copy_all-requires : goal.copy_all-requires
copy_all-requires c = let D = c.destination_of-destination.ensures in (c.requires, ((source_sixteen _ c.source_of-source.ensures, landing_sixteen _ _ c.args.value c.length.ensures c.landing-count.ensures.0 D.1), (D.1, D.2, c.landing-count.ensures.1)))

pub put_ended-requires : goal.put_ended-requires
put_ended-requires c = lent_length c.requires

pub returns : goal.returns
returns c = general_moved c.requires (c.source_of-source.ensures ∙ ap source_used c.hdma_at-hdma.ensures) (c.destination_of-destination.ensures.0 ∙ ap destination_used c.hdma_at-hdma.ensures) _ c.length.ensures c.landing-count.ensures.0 c.copy_all.ensures (c.end_general-ended.ensures ∙ ap (λ (h : Hdma). general_ended h c.args.value) c.hdma_at-hdma.ensures) c.put_ended.ensures
