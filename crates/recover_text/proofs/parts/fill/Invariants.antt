-- The rows up to k are put; each turn puts one more behind them, while there is room.
use Prim.Native.Nat.{◌-◌}
use Rattle.recover_text.specs.Text.{numbered}
use Rattle.recover_text.specs.Rows.{by_row}
use Rattle.recover_text.specs.Page.{Puts}
use Rattle.recover_text.proofs.parts.fill.Given as goal

abbrev pub invariant-loop-k : goal.invariant-loop-k
invariant-loop-k g l = Puts l.initial.page (numbered (by_row g.L.Lines.lines l.saves.old.now l.saves.new.now) l.from (l.k - l.from)) l.page
