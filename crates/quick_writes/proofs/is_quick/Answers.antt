-- The same tests; below FF46 neither holds.
use native.Mathlib.Omega.{arith}
use borrow.Author.Tests.{ne_eqb}
use Rattle.quick_writes.specs.Writes.{quick}
use Rattle.quick_writes.proofs.is_quick.Goals as goal

pub returns-then-index-lt65350 : goal.returns-then-index-lt65350
unfolding quick
returns-then-index-lt65350 c = let i = c.args.index in
    let below = c.if-index-lt65350.true in
    rw (ne_eqb i 0xFF46 (λ e. omega arith), ne_eqb i 0xFF55 (λ e. omega arith))

pub returns-then-index-eq65350 : goal.returns-then-index-eq65350
unfolding quick
returns-then-index-eq65350 c = rw c.if-index-eq65350.true

pub returns-then-index-eq65365 : goal.returns-then-index-eq65365
unfolding quick
returns-then-index-eq65365 c = rw c.if-index-eq65365.true

pub returns : goal.returns
unfolding quick
returns c = rw (ne_eqb _ 0xFF46 c.if-index-eq65350.false, ne_eqb _ 0xFF55 c.if-index-eq65365.false)
