-- The numbers, and the law that kind and log use are the image's own.
use mathlib.Core.Path.{◌∙◌}
use Rattle.image.proofs.PatchLaws.{registers_put}
use Rattle.image.proofs.fields.put_registers.Goals as goal

pub returns : goal.returns
returns c = let law = registers_put c.args.image.now (λ i. (c.slice_known-1.given i).fits) c.requires.0 c.args.r c.requires.1.0 c.requires.1.1 in
    λ p e. c.put_numbers.ensures ∙ law p e
