-- The arrays, then the fields behind them.
use mathlib.Core.Path.{◌∙◌}
use Rattle.image.proofs.StateLaws.{fields_fit, image_stored}
use borrow.Author.Rules.{rules}
use Rattle.image.proofs.store.Goals as goal

pub put_core-requires : goal.put_core-requires
put_core-requires c = (search rules, fields_fit c.args.memory c.typed.ensures c.requires.1)

pub returns : goal.returns
returns c = c.put_core.ensures ∙ image_stored c.args.memory c.typed.ensures c.requires.1 c.put_arrays.new.image (search rules) (λ i. (c.slice_known-2-1.given i).fits) c.put_arrays.ensures
