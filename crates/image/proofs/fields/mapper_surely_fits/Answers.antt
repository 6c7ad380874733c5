-- The commonest mappers' tests, and the two lengths.
use borrow.Author.Tests.{eqb-true}
use native.Mathlib.Omega.{arith}
use Prim.Native.Nat.{◌/◌, ◌%◌}
use mathlib.Core.Path.{◌∙◌}
use Rattle.rules.proofs.Bits.{shifted_one}
use Rattle.image.proofs.MappingLaws.{common_lent}
use Rattle.image.proofs.fields.mapper_surely_fits.Goals as goal

pub returns-then-rom-banks : goal.returns-then-rom-banks
returns-then-rom-banks c = λ z.
    let n = c.mapping_at-n.result in
    common_lent _ n _ _ c.in-Some.its c.if-image-ne-LENGTH.false c.mapping_at-n.ensures.0 c.in-Some.ensures
    (c.if-rom-banks.true ∙ rw (shifted_one 64 (n / 1048576 % 8) (omega arith))) (eqb-true _ _ z)
