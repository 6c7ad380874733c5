-- The colour at the new address gives the byte.
use Rattle.in_place.proofs.PaletteLaws.{index_put_law}
use Rattle.in_place.proofs.palettes.put_index.Goals as goal

pub returns : goal.returns
returns c = index_put_law _ _ _ _ c.color_of.ensures.0 c.color_at-c.ensures c.byte_of.ensures
