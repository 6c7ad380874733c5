-- The two colours, the rule of crate palette, and what it leaves.
use Rattle.palette.specs.declared.Written.{Written}
use Rattle.palette.specs.Palette.{in_range}
use Rattle.palette.proofs.Laws.{channels_range}
use lib.ListN.{length-set}
use native.Mathlib.Omega.{arith}
use mathlib.Core.Path.{ap, ◌∙◌}
use Rattle.in_place.proofs.PaletteLaws.{data_put_law}
use Rattle.in_place.proofs.palettes.put_data.Goals as goal

pub put_color-requires : goal.put_color-requires
put_color-requires c = (simp length-set c.requires.0, (omega arith, ap (λ (w : Written). in_range w.color) c.set_color_palette-w.ensures ∙ channels_range _))

pub returns : goal.returns
returns c = data_put_law _ _ _ _ c.color_of.ensures.0 c.color_at-c.ensures c.next_index.ensures c.color_of-2.ensures.0 c.color_at-next.ensures c.set_color_palette-w.ensures c.put_color.ensures
