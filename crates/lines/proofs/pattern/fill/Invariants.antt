-- One byte a turn: the bytes before a are those of the rule.
use Rattle.std.proofs.Common.{ℕ, ◌<◌, get_or}
use Rattle.lines.proofs.pattern.fill.Given as goal

abbrev pub invariant-loop-a : goal.invariant-loop-a
invariant-loop-a g l = (k : ℕ) → k < l.a → g.F.Fn.post l.rule (k, tt) (get_or l.bytes k 0)
