-- The bytes so far are put; each turn puts one more behind them.
use mathlib.Core.List.{[], ◌∷◌}
use mathlib.Core.Path.{sym, ap}
use native.Mathlib.Omega.{arith}
use lib.ListN.{take}
use lib.Seq.{length-take-le, take_all}
use Rattle.recover_text.specs.Text.{texts, shown}
use Rattle.recover_text.proofs.Pieces.{puts_none, puts_as, puts_then, puts_ends, puts_length, texts_none, texts_next, texts_length}
use Rattle.recover_text.proofs.Digits.{shown_length}
use Rattle.recover_text.proofs.put.Page.shown_all.Goals as goal

pub loop-b-init : goal.loop-b-init
loop-b-init c = puts_as (sym (texts_none (λ b. shown b ∷ []))) (puts_none _ (omega arith))

pub byte-requires : goal.byte-requires
byte-requires c = let l = c.loop-b in
    let s = c.args.s.now in
    omega (
      arith,
      puts_ends l.invariant,
      puts_length l.invariant,
      texts_length (λ b. shown b ∷ []) 1 shown_length (take l.b-index s),
      length-take-le l.b-index s (omega arith),
    )

pub loop-b-preserved : goal.loop-b-preserved
loop-b-preserved c = let l = c.loop-b in
    puts_as (texts_next (λ b. shown b ∷ []) c.args.s.now l.b-index (omega arith))
    (puts_then l.invariant (puts_as (ap (λ x. x ∷ []) c.shown.ensures) c.byte.ensures))

pub returns : goal.returns
returns c = puts_as (ap (texts (λ b. shown b ∷ [])) (take_all c.loop-b.b-index c.args.s.now (omega arith))) c.loop-b.invariant
