-- The pieces of the line, one behind the other.
use native.Mathlib.Omega.{arith}
use Rattle.recover_text.proofs.Pieces.{puts_then, puts_ends, puts_length}
use Rattle.recover_text.proofs.Digits.{decimal_length}
use Rattle.recover_messages.specs.Words as words
use Rattle.recover_messages.proofs.Choice.{sized_length}
use Rattle.recover_messages.proofs.message.left_out.Goals as goal

pub decimal-requires : goal.decimal-requires
decimal-requires c = let t = c.text.ensures in
    let u = c.sized.ensures in
    omega (arith, c.requires.0, c.requires.1, puts_ends t, puts_length t, puts_ends u, puts_length u, sized_length c.args.why.now c.args.left words.of)

pub byte-requires : goal.byte-requires
byte-requires c = let t = c.text.ensures in
    let u = c.sized.ensures in
    let v = c.decimal.ensures in
    omega (
      arith,
      c.requires.0,
      c.requires.1,
      puts_ends t,
      puts_length t,
      puts_ends u,
      puts_length u,
      puts_ends v,
      puts_length v,
      sized_length c.args.why.now c.args.left words.of,
      decimal_length c.args.len,
    )

pub returns : goal.returns
returns c = puts_then c.text.ensures (puts_then c.sized.ensures (puts_then c.decimal.ensures c.byte.ensures))
