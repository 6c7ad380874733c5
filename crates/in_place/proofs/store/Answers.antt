-- A byte of the page put.
use native.Mathlib.Omega.{arith}
use Rattle.in_place.proofs.Images.{held, put_byte}
use Rattle.in_place.proofs.store.Goals as goal

pub returns : goal.returns
returns c = (put_byte (held _ c.requires) c.args.at c.args.value (omega arith) (omega arith)).same
