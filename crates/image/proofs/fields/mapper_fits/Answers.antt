-- Tests that are enough.
use mathlib.Core.Path.{◌≡◌, sym, ◌∙◌}
use mathlib.Core.Bool.{true}
use Rattle.image.specs.Patches.{mapper_by}
use Rattle.image.proofs.MappingLaws.{mapped_by, common_by}
use Rattle.image.proofs.fields.mapper_fits.Goals as goal
use Rattle.image.proofs.fields.mapper_fits.Goals.{then-is_some, else-is_some}

pub returns-then-small_fits : goal.returns-then-small_fits
returns-then-small_fits c =
    let n = c.mapping_at-n.result in
    let fits : mapper_by n ≡ true =
    elim c.if-is_some.branch [
      | then-is_some w ↦ common_by n c.common_save.result c.common_save.ensures (sym c.is_some.ensures ∙ w.if-is_some.true)
      | else-is_some w ↦ w.small_fits.ensures (sym w.value-is ∙ c.if-small_fits.true)
    ] in
    c.if-small_fits.true ∙ sym (mapped_by _ c.requires c.mapping_at-n.ensures.0 fits).mapper
