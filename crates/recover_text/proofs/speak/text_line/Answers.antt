-- The pieces of the line, one behind the other; a text has 32 bytes at most.
use native.Mathlib.Omega.{arith}
use Rattle.recover_text.proofs.Hearing.{said_length}
use Rattle.recover_text.proofs.Pieces.{puts_then, puts_ends, puts_length}
use Rattle.recover_text.proofs.speak.text_line.Goals as goal

pub text-requires : goal.text-requires
text-requires c = let h = c.head.ensures in
    let u = c.or_nothing.ensures in
    omega (arith, c.requires, h.1, puts_length h.0, puts_ends u, puts_length u, said_length c.args.old.now (omega arith))

pub or_nothing-requires-2 : goal.or_nothing-requires-2
or_nothing-requires-2 c = let h = c.head.ensures in
    let u = c.or_nothing.ensures in
    let v = c.text.ensures in
    omega (arith, c.requires, h.1, puts_length h.0, puts_ends u, puts_length u, puts_ends v, puts_length v, said_length c.args.old.now (omega arith))

pub byte-requires : goal.byte-requires
byte-requires c = let h = c.head.ensures in
    let u = c.or_nothing.ensures in
    let v = c.text.ensures in
    let w = c.or_nothing-2.ensures in
    omega (
      arith,
      c.requires,
      h.1,
      puts_length h.0,
      puts_ends u,
      puts_length u,
      puts_ends v,
      puts_length v,
      puts_ends w,
      puts_length w,
      said_length c.args.old.now (omega arith),
      said_length c.args.new.now (omega arith),
    )

pub returns : goal.returns
returns c = puts_then c.head.ensures.0 (puts_then c.or_nothing.ensures (puts_then c.text.ensures (puts_then c.or_nothing-2.ensures c.byte.ensures)))
