-- A signed number as it was given.
use mir.Facts.{to_z-of_z}
use Rattle.host.proofs.screen.pouch_set_window_line.Goals as goal

pub returns : goal.returns
returns c = rw (to_z-of_z c.ranges.window) at c.set.ensures
