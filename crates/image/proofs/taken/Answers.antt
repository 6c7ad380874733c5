-- Each way out by its tests. The colours need none: `core_storable`.
use borrow.Author.Tests.{ne_eqb}
use Rattle.rules.proofs.Tests.{denied, granted}
use Rattle.packing.specs.Packing.{Below}
use Rattle.image.specs.Load.{load_call}
use Rattle.image.proofs.LoadLaws.{load_fits}
use Rattle.image.proofs.taken.Goals as goal

pub returns-then-image-ne-LENGTH : goal.returns-then-image-ne-LENGTH
unfolding load_call
returns-then-image-ne-LENGTH c = rw (ne_eqb _ _ c.if-image-ne-LENGTH.true)

pub returns-then-not-head_fits : goal.returns-then-not-head_fits
returns-then-not-head_fits c = let l = c.args.image.now in
    let below : Below 256 l = λ i. (c.shared_slice_known-1.given i).fits in
    rw (load_fits l c.if-image-ne-LENGTH.false below, denied c.head_fits.ensures c.if-not-head_fits.true-raw)

pub returns-then-not-tail_fits : goal.returns-then-not-tail_fits
returns-then-not-tail_fits c = let l = c.args.image.now in
    let below : Below 256 l = λ i. (c.shared_slice_known-1.given i).fits in
    rw (load_fits l c.if-image-ne-LENGTH.false below, granted c.head_fits.ensures c.if-not-head_fits.false-raw, denied c.tail_fits.ensures c.if-not-tail_fits.true-raw)

pub returns : goal.returns
returns c = let l = c.args.image.now in
    let below : Below 256 l = λ i. (c.shared_slice_known-1.given i).fits in
    rw (load_fits l c.if-image-ne-LENGTH.false below, granted c.head_fits.ensures c.if-not-head_fits.false-raw, granted c.tail_fits.ensures c.if-not-tail_fits.false-raw)
