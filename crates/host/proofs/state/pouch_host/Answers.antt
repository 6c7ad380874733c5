-- The numbers as one record.
use mir.Facts.{to_z-of_z}
use Rattle.host.proofs.state.pouch_host.Goals as goal

pub returns : goal.returns
returns c = rw c.number_given.ensures (rw (to_z-of_z c.ranges.delay, to_z-of_z c.ranges.counter, to_z-of_z c.ranges.aux, to_z-of_z c.ranges.window) at c.host.ensures)
