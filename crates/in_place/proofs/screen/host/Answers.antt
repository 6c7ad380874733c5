-- The group put.
use native.Mathlib.Omega.{arith}
use mathlib.Core.Path.{◌∙◌}
use Rattle.in_place.proofs.Images.{held, put_lcd}
use borrow.Author.Rules.{rules}
use Rattle.in_place.proofs.screen.host.Goals as goal

pub returns : goal.returns
returns c = c.put_lcd.ensures ∙ (put_lcd (held _ c.requires) _ (record { line = omega arith; signal = omega arith; mode = omega arith; delay = search rules; counter = search rules; aux = search rules; window = search rules })).same
