-- Where bit 7 is set, `index / 128 * 128` is 128.
use native.Mathlib.Omega.{arith}
use Rattle.palette.proofs.Bytes.{bit_seven, moves_up}
use Rattle.palette.proofs.next_index.Goals as goal

pub returns-then-moves : goal.returns-then-moves
returns-then-moves c = let t = bit_seven _ c.moves.ensures c.if-moves.true in moves_up _ c.moves.ensures c.if-moves.true (omega arith)
