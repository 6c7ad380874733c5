-- Two bytes put; with no step, as they are.
use native.Mathlib.Omega.{arith}
use mathlib.Core.Path.{◌≡◌}
use Rattle.in_place.specs.Steps.{stepped_in}
use Rattle.in_place.proofs.Updates.{no_step}
use Rattle.in_place.proofs.interrupts.step_tima_by.Goals as goal

pub returns-then-count-gt0 : goal.returns-then-count-gt0
unfolding stepped_in
returns-then-count-gt0 c = rw c.step_tima_by-next.ensures

pub returns-else-count-gt0 : goal.returns-else-count-gt0
returns-else-count-gt0 c = let e : c.args.count ≡ 0 = omega arith in
    rw e (no_step _ (c.slice_known-1.given 0x105).fits)
