-- The number of a load, by the rest.
use mathlib.Core.Path.{sym, ◌∙◌}
use Rattle.image.proofs.MappedLaws.{mapped_load}
use Rattle.image.proofs.rest_taken.Goals as goal

pub returns-then-rest_fits : goal.returns-then-rest_fits
returns-then-rest_fits c = rw (mapped_load c.args.image.now (λ i. (c.shared_slice_known-1.given i).fits) c.requires, sym c.rest_fits.ensures ∙ c.if-rest_fits.true)

pub returns : goal.returns
returns c = rw (mapped_load c.args.image.now (λ i. (c.shared_slice_known-1.given i).fits) c.requires, sym c.rest_fits.ensures ∙ c.if-rest_fits.false)
