-- One field, at its place.
use Rattle.image.specs.Patches.{used_put}
use Rattle.image.proofs.fields.put_used.Goals as goal

pub returns : goal.returns
unfolding used_put
returns c = c.put_field.ensures
