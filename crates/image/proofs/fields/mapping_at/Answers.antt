-- It is the field that holds them all.
use Rattle.image.specs.Patches.{mapping_number}
use Rattle.image.proofs.fields.mapping_at.Goals as goal

pub returns : goal.returns
unfolding mapping_number
returns c = c.field_at.ensures
