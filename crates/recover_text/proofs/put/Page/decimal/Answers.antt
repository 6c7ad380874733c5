-- The digits that `io` finds are the fewest, and those of the definition.
use mathlib.Core.Path.{◌∙◌}
use Rattle.recover_text.proofs.Digits.{few_digits, in_decimal}
use Rattle.recover_text.proofs.Pieces.{puts_as}
use Rattle.recover_text.proofs.put.Page.decimal.Goals as goal

pub returns : goal.returns
returns c = let d = c.decimal-k in
    puts_as (d.ensures.digits ∙ in_decimal _ _ (few_digits d.result c.args.n c.ranges.n.fits d.ensures.len) d.ensures.len) c.text.ensures
