-- In colour the byte, then the group.
use mathlib.Core.Path.{◌∙◌}
use native.Mathlib.Omega.{arith}
use Rattle.in_place.proofs.Images.{state, size, in_colour_law, banks_fits, banks_image}
use Rattle.in_place.proofs.colour.put_bank.Goals as goal

pub put_banks-requires : goal.put_banks-requires
put_banks-requires c = (c.store.auto.image ∙ size _ c.requires.0, banks_fits _ c.requires.0 _ (omega arith) _ (omega arith) _ (c.requires.1.1 c.if-banks.true))

pub returns-then-banks : goal.returns-then-banks
returns-then-banks c =
    in_colour_law (state _ c.requires.0) _ c.args.value _ c.requires.1.0 c.if-banks.true
    (banks_image _ c.requires.0 _ (omega arith) _ (omega arith) _ (c.requires.1.1 c.if-banks.true) c.store.ensures c.put_banks.ensures)
