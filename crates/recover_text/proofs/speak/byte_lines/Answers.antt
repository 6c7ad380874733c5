-- The lines of the bytes so far are put; each turn puts those of one more behind them.
use mathlib.Core.Logic.{inl, inr}
use mathlib.Core.Path.{◌≡◌, sym, ◌∙◌}
use Prim.Native.Nat.{◌+◌}
use native.Mathlib.Omega.{arith}
use lib.ListN.{get_or}
use Rattle.std.proofs.Common.{rules}
use Rattle.recover_text.specs.Rows.{row_bytes}
use Rattle.recover_text.specs.Speak.{byte_heard}
use Rattle.recover_text.proofs.Hearing.{left_next, left_none, lines_length, lines_all}
use Rattle.recover_text.proofs.Pieces.{puts_none, puts_as, puts_then, puts_ends, puts_length, numbered_more, numbered_zero}
use Rattle.recover_text.proofs.speak.byte_lines.Goals as goal

pub loop-i-init : goal.loop-i-init
loop-i-init c =
    let z : c.into_iter-i-iterator.result.count ≡ 0 = search rules in
    rw z (search rules, search rules, omega arith, puts_as (sym (numbered_zero _ _)) (puts_none _ (omega arith)))

pub byte_heard-requires : goal.byte_heard-requires
byte_heard-requires c =
    let a = c.args in
    let i = c.loop-i.invariant in
    let k = c.loop-i.i-iterator.count in
    let s = c.in-Some.ensures.steps in
    let o = left_next a.old.now k _ _ (sym s.0.0 ∙ i.0) in
    (omega (arith, s.1, o.0), omega (arith, c.requires, o.0, puts_length i.3, puts_ends i.3, lines_length a.every a.at a.old.now a.new.now k))

pub loop-i-preserved : goal.loop-i-preserved
loop-i-preserved c =
    let a = c.args in
    let i = c.loop-i.invariant in
    let k = c.loop-i.i-iterator.count in
    let s = c.in-Some.ensures.steps in
    let o = left_next a.old.now k _ _ (sym s.0.0 ∙ i.0) in
    let n = left_next a.new.now k _ _ (sym s.0.1 ∙ i.1) in
    rw s.2 (
      o.2,
      n.2,
      omega (arith, o.0),
      puts_as (numbered_more (λ j. byte_heard a.every (a.at + j) (get_or a.old.now j 0) (get_or a.new.now j 0)) k)
          (puts_then i.3 (rw (s.1, o.1, n.1) at c.byte_heard.ensures)),
    )

pub returns : goal.returns
returns c =
    let a = c.args in
    let i = c.loop-i.invariant in
    let k = c.loop-i.i-iterator.count in
    let e : k ≡ row_bytes = elim c.in-None.ensures.steps.0 [
      | inl w ↦ omega (arith, i.2, left_none a.old.now _ k i.0 w.1.0)
      | inr w ↦ omega (arith, i.2, left_none a.new.now _ k i.1 w.1.0)
    ] in
    puts_as (lines_all a.every a.at a.old.now a.new.now k e) i.3
