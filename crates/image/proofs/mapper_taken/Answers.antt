-- The tests of the commonest mappers, or the number of a load.
use mathlib.Core.Path.{sym, ◌∙◌}
use Rattle.image.proofs.MappedLaws.{load_mapped}
use Rattle.image.proofs.mapper_taken.Goals as goal

pub returns : goal.returns
returns c = (λ z. load_mapped _ (λ i. (c.shared_slice_known-1.given i).fits) (sym c.taken_apart.ensures ∙ z), λ z. c.taken_apart.ensures)
