-- A byte of the page.
use native.Mathlib.Omega.{arith}
use Rattle.in_place.proofs.Images.{byte}
use Rattle.in_place.proofs.load.Goals as goal

pub returns : goal.returns
returns c = byte _ c.requires _ (omega arith)
