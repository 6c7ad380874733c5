-- The address, and the colon behind it.
use native.Mathlib.Omega.{arith}
use Rattle.recover_text.proofs.Pieces.{puts_then, puts_ends}
use Rattle.recover_text.proofs.speak.head.Goals as goal

pub returns : goal.returns
returns c = (puts_then c.address.ensures.0 c.text.ensures, omega (arith, c.address.ensures.1, puts_ends c.text.ensures))
