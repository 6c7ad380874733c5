-- The characters that are left say the rest, after digits that wrote n.
use Rattle.std.proofs.Common.{◌≡◌, ◌≤◌, drop}
use Rattle.commands.specs.Walk.{number_from}
use Rattle.commands.proofs.command.digits.Given as goal

abbrev pub invariant-loop-c : goal.invariant-loop-c
invariant-loop-c l = (l.n ≤ l.limit) × (number_from l.base l.limit 0 l.s ≡ number_from l.base l.limit l.n (drop l.c-index l.s))
