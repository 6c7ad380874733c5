-- The number, a space, the noun, and an s unless it is 1.
use native.Mathlib.Omega.{arith}
use Rattle.recover_text.proofs.Digits.{decimal_length, counted_one, counted_many}
use Rattle.recover_text.proofs.Pieces.{puts_as, puts_then, puts_ends, puts_length}
use Rattle.recover_text.proofs.put.Page.counted.Goals as goal

pub byte-requires : goal.byte-requires
byte-requires c = let t = c.decimal.ensures in
    omega (arith, decimal_length c.args.n, puts_ends t, puts_length t)

pub text-requires : goal.text-requires
text-requires c = let t = c.decimal.ensures in
    let u = c.byte.ensures in
    omega (arith, decimal_length c.args.n, puts_ends t, puts_length t, puts_ends u, puts_length u)

pub byte-requires-then-n-ne1 : goal.byte-requires-then-n-ne1
byte-requires-then-n-ne1 c = let t = c.decimal.ensures in
    let u = c.byte.ensures in
    let v = c.text.ensures in
    omega (arith, decimal_length c.args.n, puts_ends t, puts_length t, puts_ends u, puts_length u, puts_ends v, puts_length v)

pub returns-then-n-ne1 : goal.returns-then-n-ne1
returns-then-n-ne1 c =
    puts_as (counted_many _ _ (λ e. omega (arith, e, c.if-n-ne1.true)))
    (puts_then c.decimal.ensures (puts_then c.byte.ensures (puts_then c.text.ensures c.byte-then-n-ne1.ensures)))

pub returns-else-n-ne1 : goal.returns-else-n-ne1
returns-else-n-ne1 c =
    puts_as (counted_one _ _ (omega (arith, c.if-n-ne1.false)))
    (puts_then c.decimal.ensures (puts_then c.byte.ensures c.text.ensures))
