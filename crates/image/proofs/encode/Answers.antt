-- Each way out by its tests.
use borrow.Author.Tests.{eq-eqb, ne_eqb}
use Rattle.rules.proofs.Tests.{denied, granted}
use Rattle.image.specs.Load.{storable, store_call}
use Rattle.image.proofs.encode.Goals as goal

pub returns-then-image-ne-LENGTH : goal.returns-then-image-ne-LENGTH
unfolding store_call
returns-then-image-ne-LENGTH c = rw (ne_eqb _ _ c.if-image-ne-LENGTH.true)

pub returns-then-not-in_range : goal.returns-then-not-in_range
unfolding store_call storable
returns-then-not-in_range c = rw (eq-eqb _ _ c.if-image-ne-LENGTH.false, denied c.in_range.ensures c.if-not-in_range.true-raw)

pub store-requires : goal.store-requires
unfolding storable
store-requires c = (c.if-image-ne-LENGTH.false, granted c.in_range.ensures c.if-not-in_range.false-raw)

pub returns : goal.returns
unfolding store_call storable
returns c = rw (eq-eqb _ _ c.if-image-ne-LENGTH.false, granted c.in_range.ensures c.if-not-in_range.false-raw, c.store.ensures)
