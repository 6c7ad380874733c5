-- In colour bit 7 stays, else the byte is stored.
use Rattle.registers.specs.Colour.{speed_put}
use Rattle.in_place.proofs.Images.{speed_written, speed_stored}
use Rattle.in_place.proofs.colour.write_speed.Goals as goal

pub returns-then-is_colour : goal.returns-then-is_colour
unfolding speed_put
returns-then-is_colour c = speed_written _ c.requires c.args.value c.is_colour.ensures c.if-is_colour.true c.speed-next.ensures c.store.ensures

pub returns-else-is_colour : goal.returns-else-is_colour
unfolding speed_put
returns-else-is_colour c = speed_stored _ c.requires c.args.value c.is_colour.ensures c.if-is_colour.false c.store-else-is_colour.ensures
