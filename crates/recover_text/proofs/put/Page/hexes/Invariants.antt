-- The bytes so far are put; each turn puts one more behind them.
use lib.ListN.{take}
use Rattle.recover_text.specs.Text.{hexes}
use Rattle.recover_text.specs.Page.{Puts}
use Rattle.recover_text.proofs.put.Page.hexes.Given as goal

abbrev pub invariant-loop-b : goal.invariant-loop-b
invariant-loop-b l = Puts l.initial.self (hexes (take l.b-index l.s)) l.self
