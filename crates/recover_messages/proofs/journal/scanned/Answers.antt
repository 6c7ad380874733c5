-- What is left of the part gives, over the scan so far, what all of it gives: each turn takes one byte.
use mathlib.Core.Path.{refl, sym, ◌∙◌}
use native.Mathlib.Omega.{arith}
use Rattle.recover_messages.proofs.Scans.{scan_next, scan_ends, byte_bounded, byte_len}
use Rattle.recover_messages.proofs.journal.scanned.Goals as goal

pub loop-b-init : goal.loop-b-init
loop-b-init c = (refl, c.requires.0, omega arith)

pub after-next-requires : goal.after-next-requires
after-next-requires c = omega (arith, c.requires.1, c.loop-b.invariant.2)

pub loop-b-preserved : goal.loop-b-preserved
loop-b-preserved c = let l = c.loop-b in
    let p = c.args.part.now in
    rw c.after-next.ensures
    (l.invariant.0 ∙ scan_next l.next p l.b-index (omega arith), byte_bounded _ _ l.invariant.1, byte_len _ _ ∙ omega (arith, l.invariant.2))

pub returns : goal.returns
returns c = let l = c.loop-b in
    let p = c.args.part.now in
    (sym (l.invariant.0 ∙ scan_ends l.next p l.b-index (omega arith)), (l.invariant.1, omega (arith, l.invariant.2)))
