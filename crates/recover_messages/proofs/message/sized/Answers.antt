-- The pieces of the text, one behind the other.
use native.Mathlib.Omega.{arith}
use Rattle.recover_text.proofs.Pieces.{puts_then, puts_ends, puts_length}
use Rattle.recover_text.proofs.Digits.{counted_length}
use Rattle.recover_messages.specs.Words as words
use Rattle.recover_messages.proofs.message.sized.Goals as goal

pub text-requires-2 : goal.text-requires-2
text-requires-2 c = let t = c.text.ensures in
    let u = c.counted.ensures in
    omega (arith, c.requires, puts_ends t, puts_length t, puts_ends u, puts_length u, counted_length c.args.n words.byte_noun)

pub returns : goal.returns
returns c = puts_then c.text.ensures (puts_then c.counted.ensures c.text-2.ensures)
