-- The kind, the other numbers, then the log use.
use Rattle.image.specs.Patches.{used_put, mapping_put}
use Rattle.image.proofs.fields.put_mapping.Goals as goal

pub returns : goal.returns
unfolding used_put mapping_put
returns c = rw (c.put_numbers.ensures, c.put_field.ensures, c.from-r.ensures) at c.put_used.ensures
