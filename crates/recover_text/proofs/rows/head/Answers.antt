-- The pieces of the head, one behind the other.
use native.Mathlib.Omega.{arith}
use Rattle.recover_text.proofs.Pieces.{puts_then, puts_ends}
use Rattle.recover_text.proofs.rows.head.Goals as goal

pub returns : goal.returns
returns c = (
  puts_then c.text.ensures (puts_then c.address.ensures.0 c.byte.ensures),
  omega (arith, puts_ends c.text.ensures, c.address.ensures.1, puts_ends c.byte.ensures),
)
