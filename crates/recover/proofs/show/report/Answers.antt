-- What is heard, alone or behind the rows in hex.
use mathlib.Core.Path.{ap}
use native.Mathlib.Omega.{arith}
use lib.ListN.{length, length-append}
use Rattle.recover_text.specs.Report.{hex_rows, heard_rows}
use Rattle.recover_text.proofs.Whole.{hex_length, heard_length, heard_alone, with_rows}
use Rattle.recover.proofs.show.report.Goals as goal

pub returns-then-speak : goal.returns-then-speak
returns-then-speak g c = rw (← heard_alone _ _ _ c.if-speak.true) c.print_parts.ensures

pub overflow_add-result : goal.overflow_add-result
overflow_add-result g c = let a = c.args in
    record { fits = omega (arith, a.saves.pair.short, c.in_ok-front.ensures, c.in_ok-back.ensures, hex_length a.saves.old.now a.saves.new.now a.saves.pair, heard_length a.saves.old.now a.saves.new.now a.saves.pair) }

pub returns : goal.returns
returns g c = let a = c.args in
    omega (
      arith,
      c.in_ok-front.ensures,
      c.in_ok-back.ensures,
      length-append (hex_rows a.saves.old.now a.saves.new.now) (heard_rows a.saves.old.now a.saves.new.now),
      ap length (with_rows a.speak a.saves.old.now a.saves.new.now c.if-speak.false),
    )
