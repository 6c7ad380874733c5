-- The rows up to k are put; each turn puts one more behind them, while there is room.
use mathlib.Core.Path.{◌≡◌, sym, ap}
use Prim.Native.Nat.{◌-◌, ◌/◌}
use native.Mathlib.Omega.{arith}
use lib.ListN.{length}
use Rattle.recover_text.specs.Text.{numbered}
use Rattle.recover_text.specs.Rows.{by_row}
use Rattle.recover_text.proofs.Lines.{row_bytes_law}
use Rattle.recover_text.proofs.Pieces.{puts_none, puts_as, puts_then, puts_ends, puts_length, numbered_none, numbered_next}
use Rattle.recover_text.proofs.parts.fill.Goals as goal

pub loop-k-init : goal.loop-k-init
loop-k-init g c = puts_as (sym (numbered_none _ _ _ (omega arith))) (puts_none _ c.requires.1)

pub overflow_sub-page : goal.overflow_sub-page
overflow_sub-page g c = let i = c.loop-k.invariant in omega (arith, i.text.fits, puts_ends i, puts_length i)

pub returns-then-page-ROOM-clause-text : goal.returns-then-page-ROOM-clause-text
returns-then-page-ROOM-clause-text g c = c.loop-k.invariant

pub row-requires : goal.row-requires
row-requires g c = let i = c.loop-k.invariant in
    omega (arith, c.loop-k-test.true, c.if-page-ROOM.false, c.ROOM.ensures, i.text.fits, puts_ends i, puts_length i)

pub loop-k-preserved : goal.loop-k-preserved
loop-k-preserved g c = puts_as (numbered_next _ _ _ c.loop-k.auto.k) (puts_then c.loop-k.invariant (rw (row_bytes_law c.loop-k.k) at c.row.ensures))

pub returns-clause-text : goal.returns-clause-text
returns-clause-text g c =
    let l = c.loop-k in
    let a = c.args in
    let e : l.k ≡ length a.saves.old.now / 16 = omega (arith, l.auto.k-end c.requires.0, c.loop-k-test.false) in
    puts_as (ap (λ k. numbered (by_row g.L.Lines.lines a.saves.old.now a.saves.new.now) a.from (k - a.from)) e) l.invariant
