-- Each field is at its place.
use Rattle.image.specs.Patches.{clock_put}
use Rattle.image.proofs.fields.put_clock.Goals as goal

pub returns : goal.returns
unfolding clock_put
returns c = rw c.put_field.ensures at c.put_field-2.ensures
