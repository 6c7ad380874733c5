-- The arrays from the bytes, all else from what `open` gave.
use mathlib.Core.Path.{sym, ◌∙◌}
use Rattle.packing.specs.Packing.{Below}
use Rattle.image.proofs.LoadLaws.{all_same, state_core, state_read}
use Rattle.image.proofs.state_of.Goals as goal

pub returns : goal.returns
returns c = let l = c.args.image.now in
    let size = c.requires.0 in
    let below : Below 256 l = λ i. (c.shared_slice_known-1.given i).fits in
    all_same c.part-oam.ensures c.part-page.ensures c.colors_at-background.ensures c.colors_at-sprites.ensures
    (c.requires.1 ∙ state_core l size below)
    ∙ sym (state_read l size below)
