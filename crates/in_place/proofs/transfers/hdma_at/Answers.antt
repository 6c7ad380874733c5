-- The group of a state that was loaded.
use mathlib.Core.Path.{ap, ◌∙◌}
use Rattle.memory.specs.declared.Core.{Core}
use Rattle.in_place.proofs.Images.{core}
use Rattle.in_place.proofs.transfers.hdma_at.Goals as goal

pub returns : goal.returns
returns c = c.hdma_at.ensures ∙ ap (λ (k : Core). k.hdma) (core _ c.requires)
