-- By the state, then by the timer's own call.
use Rattle.refusals.specs.Answers.{changed}
use Rattle.refusals.proofs.Answers.{exit}
use Rattle.input_calls.proofs.Cycles.{timer_done, timer_refused}
use Rattle.input_calls.proofs.update_timer.Goals as goal

pub returns-in_err-after : goal.returns-in_err-after
returns-in_err-after c = rw (exit _ _ c.from_residual-in_err-after.ensures.1) (timer_refused _ _ c.in_ok-refused.ensures _ _ (rw (c.timer_of.ensures) at c.in_err-after.ensures))

pub returns : goal.returns
unfolding changed
returns c = rw (c.with_timer.ensures) (timer_done _ _ c.in_ok-refused.ensures _ (rw (c.timer_of.ensures) at c.in_ok-after.ensures))
