-- Two halves.
use native.Mathlib.Omega.{arith}
use Rattle.places.proofs.Puts.{read_halves}
use Rattle.places.proofs.u64_at.Goals as goal

pub returns : goal.returns
returns c = cc (read_halves c.args.bytes.now c.args.bit (omega arith))
