-- A refusal of the converter is one of recovery; else the new log has the old one's records.
use mathlib.Core.Path.{refl, sym, ◌∙◌}
use native.Mathlib.Omega.{arith}
use lib.Seq.{length-take-le}
use Rattle.numbers.proofs.Passed.{passed, refuses}
use Rattle.recover_messages.proofs.Plays.{not_converted, new_len, as_converted}
use Rattle.recover_messages.proofs.journal.recover_old.Goals as goal

pub returns-in_err-len : goal.returns-in_err-len
returns-in_err-len c =
    rw (passed _ _ c.from_residual.ensures) (not_converted _ _ _ c.requires.0 c.requires.1 (omega arith) _ c.in_err-len.ensures (λ z. omega (arith, z, refuses c.in_err-len.field-0.0)))

pub slice_bounds-new-end : goal.slice_bounds-new-end
slice_bounds-new-end c = omega (arith, (new_len c.args.save.now _ _ c.requires.0 c.requires.1 (omega arith) _ c.in_ok-len.ensures refl).0, c.requires.1)

pub slice_bounds-recover-end : goal.slice_bounds-recover-end
slice_bounds-recover-end c = sym (length-take-le _ _ (omega (arith, (new_len c.args.save.now _ _ c.requires.0 c.requires.1 (omega arith) _ c.in_ok-len.ensures refl).0, c.requires.1)))

pub returns : goal.returns
returns c = c.recover.ensures ∙ as_converted _ _ _ c.requires.0 c.requires.1 (omega arith) _ c.in_ok-len.ensures refl
