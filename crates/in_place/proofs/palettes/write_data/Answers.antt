-- In colour the palette is written.
use Rattle.std.proofs.Common.{◌≡◌, rules}
use native.Mathlib.Omega.{arith}
use Rattle.in_place.specs.Palettes.{data_put}
use Rattle.in_place.proofs.PaletteLaws.{data_written_law}
use Rattle.in_place.proofs.palettes.write_data.Goals as goal

pub returns : goal.returns
returns c = rw c.at.ensures.0 at (c.put_palette.ensures _ (λ a k n b e x y q.
    let z : b.now ≡ data_put a.now k n c.args.value = search rules in
    data_written_law _ c.requires c.args.value (omega arith) c.args.plane x y (rw e at z)))
