-- Refused, or done: the description first, then the lengths.
use Rattle.bus.specs.Fresh.{fresh_refused, beginning}
use Rattle.refusals.specs.Refusal.{or_else}
use Rattle.refusals.proofs.Answers.{exit, refuses}
use Rattle.bus.proofs.fresh.fresh.Goals as goal

pub returns-in_err-cartridge : goal.returns-in_err-cartridge
unfolding fresh_refused beginning or_else
returns-in_err-cartridge c = rw (exit _ _ c.from_residual.ensures.1, ← c.in_err-cartridge.ensures, refuses c.in_err-cartridge.field-0.0, refuses c.in_err-cartridge.field-0.0)

pub returns-in_err-lent_refused : goal.returns-in_err-lent_refused
unfolding fresh_refused beginning or_else
returns-in_err-lent_refused c = rw (exit _ _ c.from_residual-in_err-lent_refused.ensures.1, ← c.in_ok-cartridge.ensures, ← c.new-memory.ensures, ← (rw c.of-lens.ensures at c.in_err-lent_refused.ensures), refuses c.in_err-lent_refused.field-0.0)

pub returns : goal.returns
unfolding fresh_refused beginning or_else
returns c = rw (← c.in_ok-cartridge.ensures, ← c.new-memory.ensures, ← (rw c.of-lens.ensures at c.in_ok-lent_refused.ensures), c.fill.ensures.after (λ y e. e), c.fill-2.ensures.after (λ y e. e))
