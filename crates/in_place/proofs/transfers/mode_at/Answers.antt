-- A field of a group of a state that was loaded.
use mathlib.Core.Path.{ap, ◌∙◌}
use Rattle.lcd.specs.declared.Lcd.{Lcd}
use Rattle.memory.specs.declared.Core.{Core}
use Rattle.in_place.proofs.Images.{core}
use Rattle.in_place.proofs.transfers.mode_at.Goals as goal

pub returns : goal.returns
returns c = ap (λ (l : Lcd). l.mode) c.lcd_at.ensures ∙ ap (λ (k : Core). k.lcd.mode) (core _ c.requires)
