-- Each turn prints the rows of one part more, of 65,536 bytes at most; those that are left fall.
use mathlib.Core.Path.{refl, ap, sym}
use native.Mathlib.Omega.{arith}
use lib.ListN.{length}
use Prim.Native.Nat.{◌-◌}
use Rattle.recover_text.specs.Rows.{by_row}
use Rattle.recover_text.specs.Text.{numbered}
use Rattle.recover_text.proofs.Pieces.{kept_length, numbered_zero}
use Rattle.recover.proofs.Saves.{printed_more}
use Rattle.recover.proofs.show.print_parts.Goals as goal

pub loop-from-init : goal.loop-from-init
loop-from-init g c = (omega arith, refl, omega arith, sym (ap length (numbered_zero _ 0)))

pub loop-from-preserved : goal.loop-from-preserved
loop-from-preserved g c = let a = c.args in
    let l = c.loop-from in
    let e = c.show-part.ensures in
    let k = kept_length {t = numbered (by_row g.L.Lines.lines a.saves.old.now a.saves.new.now) l.from (c.show-part.result.next - l.from)} e.text in
    let m = e.moves (omega (arith, c.requires, l.invariant.1)) (omega (arith, c.loop-from-test.true)) in (
      e.within,
      omega (arith, k, l.invariant.1),
      omega (arith, e.text.fits, e.text.ends, l.invariant.1, l.invariant.2, m),
      printed_more (by_row g.L.Lines.lines a.saves.old.now a.saves.new.now) _ _ e.onward _ _ l.invariant.3 e.text.ends,
    )
