-- By the form's width.
use mathlib.Core.Path.{refl}
use native.Mathlib.Omega.{arith}
use Rattle.recover_messages.proofs.Scans.{width_within, rest_within}
use Rattle.recover_messages.proofs.journal.rest_of.Goals as goal

pub nonzero_rem-result : goal.nonzero_rem-result
nonzero_rem-result c = omega (arith, c.len.ensures, (width_within c.args.form).0)

pub returns : goal.returns
returns c = rw c.len.ensures (refl, rest_within c.args.form c.args.n)
