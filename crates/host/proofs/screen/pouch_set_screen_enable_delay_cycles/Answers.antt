-- A signed number as it was given.
use mir.Facts.{to_z-of_z}
use Rattle.host.proofs.screen.pouch_set_screen_enable_delay_cycles.Goals as goal

pub returns : goal.returns
returns c = rw (to_z-of_z c.ranges.delay) at c.set.ensures
