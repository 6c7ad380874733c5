-- A mapper that starts is in range exactly where its description is.
use mathlib.Core.Path.{sym, ap, ◌∙◌}
use borrow.Author.Tests.{le-leb, not-true, not-false}
use Rattle.mbc.specs.Mbc.{fresh, in_range, cartridge_of}
use Rattle.mbc.proofs.Ranges.{start_in_range}
use Rattle.mbc.proofs.mbc.Mapper.fresh.Goals as goal

pub returns-then-not-in_range : goal.returns-then-not-in_range
unfolding fresh
returns-then-not-in_range c = let cart = cartridge_of c.args.banks c.args.code in
    let d = sym (start_in_range cart c.args.kind) ∙ ap (in_range cart) (sym c.start-mapper.ensures) ∙ sym c.in_range.ensures ∙ not-true _ c.if-not-in_range.true-raw in
    rw (le-leb _ _ c.if-kind-gt-LAST.false, d)

pub returns : goal.returns
unfolding fresh
returns c = let cart = cartridge_of c.args.banks c.args.code in
    let d = sym (start_in_range cart c.args.kind) ∙ ap (in_range cart) (sym c.start-mapper.ensures) ∙ sym c.in_range.ensures ∙ not-false _ c.if-not-in_range.false-raw in
    rw (c.start-mapper.ensures, le-leb _ _ c.if-kind-gt-LAST.false, d)
