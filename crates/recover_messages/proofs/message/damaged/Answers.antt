-- The pieces of the line, one behind the other.
use native.Mathlib.Omega.{arith}
use Rattle.recover_text.proofs.Pieces.{puts_then, puts_ends, puts_length, texts_length}
use Rattle.recover_text.proofs.Digits.{decimal_length, spaced_length}
use Rattle.recover_text.specs.Text.{spaced}
use Rattle.recover_messages.specs.Words as words
use Rattle.recover_messages.proofs.Choice.{sized_length}
use Rattle.recover_messages.proofs.message.damaged.Goals as goal

pub decimal-requires : goal.decimal-requires
decimal-requires c = let t = c.text.ensures in let u = c.text-2.ensures in let v = c.sized.ensures in omega (arith, c.requires.0, puts_ends t, puts_ends u, puts_ends v, puts_length t, puts_length u, puts_length v, sized_length words.has c.args.len words.its_record)

pub sized-requires-2 : goal.sized-requires-2
sized-requires-2 c = let t = c.text.ensures in let u = c.text-2.ensures in let v = c.sized.ensures in let w = c.decimal.ensures in omega (arith, c.requires.0, puts_ends t, puts_ends u, puts_ends v, puts_ends w, puts_length t, puts_length u, puts_length v, puts_length w, sized_length words.has c.args.len words.its_record, decimal_length c.args.number)

pub hexes-requires : goal.hexes-requires
hexes-requires c = let t = c.text.ensures in let u = c.text-2.ensures in let v = c.sized.ensures in let w = c.decimal.ensures in let x = c.sized-2.ensures in omega (arith, c.requires.0, c.requires.1, puts_ends t, puts_ends u, puts_ends v, puts_ends w, puts_ends x, puts_length t, puts_length u, puts_length v, puts_length w, puts_length x, sized_length words.has c.args.len words.its_record, decimal_length c.args.number, sized_length words.is_damaged c.args.ram words.its_bytes)

pub text-requires-3 : goal.text-requires-3
text-requires-3 c = let t = c.text.ensures in let u = c.text-2.ensures in let v = c.sized.ensures in let w = c.decimal.ensures in let x = c.sized-2.ensures in let y = c.hexes.ensures in omega (arith, c.requires.0, c.requires.1, puts_ends t, puts_ends u, puts_ends v, puts_ends w, puts_ends x, puts_ends y, puts_length t, puts_length u, puts_length v, puts_length w, puts_length x, puts_length y, sized_length words.has c.args.len words.its_record, decimal_length c.args.number, sized_length words.is_damaged c.args.ram words.its_bytes, texts_length spaced 3 spaced_length c.args.bytes.now)

pub returns : goal.returns
returns c = puts_then c.text.ensures (puts_then c.text-2.ensures (puts_then c.sized.ensures (puts_then c.decimal.ensures (puts_then c.sized-2.ensures (puts_then c.hexes.ensures c.text-3.ensures)))))
