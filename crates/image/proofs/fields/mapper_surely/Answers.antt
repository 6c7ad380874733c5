-- The commonest mappers' tests.
use mathlib.Core.Path.{sym, ◌∙◌}
use Rattle.image.proofs.MappingLaws.{mapped_by, common_by}
use Rattle.image.proofs.fields.mapper_surely.Goals as goal

pub returns-then-image-eq-LENGTH : goal.returns-then-image-eq-LENGTH
returns-then-image-eq-LENGTH c = λ z.
    mapped_by _ c.if-image-eq-LENGTH.true c.mapping_at.ensures.0
    (common_by c.mapping_at.result c.common_save.result c.common_save.ensures (sym c.is_some.ensures ∙ z))
