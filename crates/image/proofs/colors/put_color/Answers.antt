-- Each channel is at its place.
use native.Mathlib.Omega.{arith}
use Rattle.image.specs.Patches.{color_put}
use Rattle.image.proofs.ColorLaws.{three}
use Rattle.image.proofs.colors.put_color.Goals as goal

pub put_field-requires : goal.put_field-requires
put_field-requires c = omega (arith, three _ c.requires.1.1)

pub put_field-requires-2 : goal.put_field-requires-2
put_field-requires-2 c = omega (arith, three _ c.requires.1.1)

pub put_field-requires-3 : goal.put_field-requires-3
put_field-requires-3 c = omega (arith, three _ c.requires.1.1)

pub returns : goal.returns
unfolding color_put
returns c = cc
