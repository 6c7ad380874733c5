-- No lines where the bytes are the same, else two.
use mathlib.Core.Path.{refl, sym}
use native.Mathlib.Omega.{arith}
use Rattle.rules.proofs.Tests.{denied, granted}
use Rattle.recover_text.proofs.Lines.{unchanged_lines, changed_lines_law}
use Rattle.recover_text.proofs.Pieces.{puts_as, puts_then, puts_none, puts_length}
use Rattle.recover_text.proofs.rows.HexLines.row.Goals as goal

pub line-requires-then-ne : goal.line-requires-then-ne
line-requires-then-ne c = omega (arith, c.requires, c.line.ensures.1, puts_length c.line.ensures.0)

pub returns-then-ne : goal.returns-then-ne
returns-then-ne c = puts_as (changed_lines_law _ _ _ (denied refl (sym c.if-ne.ensures))) (puts_then c.line.ensures.0 c.line-then-ne.ensures.0)

pub returns-else-ne : goal.returns-else-ne
returns-else-ne c = puts_as (unchanged_lines _ _ _ (granted refl (sym c.if-ne.ensures))) (puts_none _ (omega arith))
