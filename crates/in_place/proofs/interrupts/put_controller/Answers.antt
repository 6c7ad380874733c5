-- The group put.
use native.Mathlib.Omega.{arith}
use mathlib.Core.Path.{◌∙◌}
use Rattle.in_place.proofs.Images.{held, put_joypad}
use Rattle.in_place.proofs.interrupts.put_controller.Goals as goal

pub returns : goal.returns
returns c = c.put_joypad.ensures ∙ (put_joypad (held _ c.requires) _ (omega arith, omega arith)).same
