-- The group, and five bytes of the page.
use Rattle.in_place.proofs.Groups.{screen_in}
use Rattle.in_place.proofs.screen.screen_at.Goals as goal

pub returns : goal.returns
returns c = screen_in _ c.requires c.lcd_at.ensures
