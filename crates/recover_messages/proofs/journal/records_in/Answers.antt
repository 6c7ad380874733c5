-- By the form's width.
use mathlib.Core.Path.{refl}
use native.Mathlib.Omega.{arith}
use Rattle.recover_messages.proofs.Scans.{width_within, threes}
use Rattle.recover_messages.proofs.journal.records_in.Goals as goal

pub nonzero_div-result : goal.nonzero_div-result
nonzero_div-result c = omega (arith, c.len.ensures, (width_within c.args.form).0)

pub returns : goal.returns
returns c = rw c.len.ensures (refl, threes c.args.form c.args.n)
