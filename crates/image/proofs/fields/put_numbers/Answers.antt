-- The numbers stand side by side: `numbers_put`.
use mathlib.Core.Path.{◌∙◌}
use native.Mathlib.Omega.{arith}
use Rattle.image.proofs.PatchLaws.{numbers_put}
use Rattle.image.proofs.fields.put_numbers.Goals as goal

pub returns : goal.returns
returns c = c.put_field.ensures
    ∙ numbers_put c.args.image.now (λ i. (c.slice_known-1.given i).fits) c.requires.0 c.args.r c.requires.1 _ (omega arith)
