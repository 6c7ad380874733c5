-- DIV's byte, then what the steps of TIMA put, then the group.
use mathlib.Core.Path.{◌∙◌}
use lib.ListN.{length-set}
use Rattle.in_place.proofs.Images.{size}
use Rattle.in_place.proofs.Updates.{rest_below, timer_updated}
use borrow.Author.Rules.{rules}
use Rattle.in_place.proofs.interrupts.update_timer.Goals as goal

pub step_tima_by-requires : goal.step_tima_by-requires
step_tima_by-requires c = simp length-set (size _ c.requires.0)

pub put_clock-requires : goal.put_clock-requires
put_clock-requires c = let h = c.requires.0 in
    let k = rest_below _ h _ c.clock_at-clock.ensures c.count_div-divided.ensures c.periods_in-periods.ensures in
    (c.step_tima_by.auto.image ∙ simp length-set (size _ h), search rules)

pub returns : goal.returns
returns c = timer_updated _ c.requires.0 _ c.clock_at-clock.ensures c.count_div-divided.ensures c.periods_in-periods.ensures
    c.step_tima_by.ensures c.put_clock.ensures
