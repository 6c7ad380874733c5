-- A signed number as it was given.
use mir.Facts.{to_z-of_z}
use Rattle.host.proofs.screen.pouch_set_aux_cycles_counter.Goals as goal

pub returns : goal.returns
returns c = rw (to_z-of_z c.ranges.aux) at c.set.ensures
