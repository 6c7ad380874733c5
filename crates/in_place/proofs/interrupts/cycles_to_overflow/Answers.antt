-- The group, and two bytes of the page.
use native.Mathlib.Omega.{arith}
use Rattle.in_place.proofs.Updates.{left_in, counting_in}
use Rattle.in_place.proofs.interrupts.cycles_to_overflow.Goals as goal

pub returns : goal.returns
returns c = (left_in _ c.requires c.clock_at-clock.ensures (omega arith), counting_in _ c.requires c.cycles_to_overflow.ensures.1)
