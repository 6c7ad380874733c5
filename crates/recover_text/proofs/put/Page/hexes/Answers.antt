-- The bytes so far are put; each turn puts one more behind them.
use mathlib.Core.Path.{sym, ap}
use native.Mathlib.Omega.{arith}
use lib.ListN.{length, take}
use lib.Seq.{length-take-le, take_all}
use Rattle.recover_text.specs.Text.{texts, spaced}
use Rattle.recover_text.proofs.Pieces.{puts_none, puts_as, puts_then, puts_ends, puts_length, texts_none, texts_next, texts_length}
use Rattle.recover_text.proofs.Digits.{spaced_length}
use Rattle.recover_text.proofs.put.Page.hexes.Goals as goal

pub loop-b-init : goal.loop-b-init
loop-b-init c = puts_as (sym (texts_none spaced)) (puts_none _ (omega arith))

pub text-requires : goal.text-requires
text-requires c = let l = c.loop-b in
    let s = c.args.s.now in
    omega (
      arith,
      puts_ends l.invariant,
      puts_length l.invariant,
      texts_length spaced 3 spaced_length (take l.b-index s),
      length-take-le l.b-index s (omega arith),
      ap length c.spaced.ensures,
    )

pub loop-b-preserved : goal.loop-b-preserved
loop-b-preserved c = let l = c.loop-b in
    puts_as (texts_next spaced c.args.s.now l.b-index (omega arith)) (puts_then l.invariant (puts_as c.spaced.ensures c.text.ensures))

pub returns : goal.returns
returns c = puts_as (ap (texts spaced) (take_all c.loop-b.b-index c.args.s.now (omega arith))) c.loop-b.invariant
