-- The words of the bytes so far are put; each turn takes one byte more.
use mathlib.Core.Path.{sym, ap, ◌∙◌}
use native.Mathlib.Omega.{arith}
use lib.ListN.{length, take, get_or}
use lib.Seq.{length-take-le, take_all}
use Rattle.recover_text.specs.Speak.{words, step_text, step_place}
use Rattle.recover_text.proofs.Hearing.{words_none, words_next, words_length, place_next, place_none}
use Rattle.recover_text.proofs.Pieces.{puts_none, puts_as, puts_then, puts_ends, puts_length, puts_whole}
use Rattle.recover_text.proofs.speak.words.Goals as goal

pub loop-b-init : goal.loop-b-init
loop-b-init c = (puts_as (sym (words_none 0)) (puts_none _ (omega (arith, c.new-page.ensures.empty.1))), sym (place_none 0))

pub step-place-requires : goal.step-place-requires
step-place-requires c = let l = c.loop-b in
    omega (
      arith,
      puts_length l.invariant.0,
      puts_ends l.invariant.0,
      c.new-page.ensures.empty.1,
      ap length c.new-page.ensures.empty.0,
      words_length 0 (take l.b-index c.args.row.now),
      length-take-le l.b-index c.args.row.now (omega arith),
    )

pub loop-b-preserved : goal.loop-b-preserved
loop-b-preserved c = let l = c.loop-b in
    let s = c.args.row.now in
    let i = l.b-index in (
      puts_as (words_next s i (omega arith)) (puts_then l.invariant.0 (puts_as (ap (λ p. step_text p (get_or s i 0)) l.invariant.1) c.step-place.ensures.0)),
      c.step-place.ensures.1 ∙ ap (λ p. step_place p (get_or s i 0)) l.invariant.1 ∙ place_next s i (omega arith),
    )

pub returns : goal.returns
returns c = let l = c.loop-b in
    puts_whole c.new-page.ensures.empty (puts_as (ap (words 0) (take_all l.b-index c.args.row.now (omega arith))) l.invariant.0)
