-- The invariant: what is regrouped, followed by what the groups that are left become, is the whole.
use Rattle.std.proofs.Common.{◌≡◌, ◌*◌, ◌-◌, ◌++◌, take, drop, length}
use Rattle.packing.proofs.Runs.{run}
use Rattle.packing.proofs.regroup.Given as goal

abbrev pub invariant-loop-group : goal.invariant-loop-group
invariant-loop-group g l =
    (length l.out ≡ 12 * g.row.Q) × (take (l.group * g.row.Q) l.out ++ run g.row.P g.row.U g.row.Q g.row.W (12 - l.group) (drop (l.group * g.row.P) l.values) ≡ run g.row.P g.row.U g.row.Q g.row.W 12 l.values)
