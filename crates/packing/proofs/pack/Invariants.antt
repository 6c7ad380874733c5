-- The invariant: the number of the values so far, each below 256.
use Rattle.std.proofs.Common.{◌≡◌, ◌*◌, ◌^◌, ◌<◌, take, replicate}
use Rattle.packing.specs.Packing.{packed}
use Rattle.packing.proofs.pack.Given as goal

abbrev pub invariant-loop-value : goal.invariant-loop-value
invariant-loop-value g l = (l.n ≡ packed (replicate l.value-index g.row.W) (take l.value-index l.values)) × (l.n < 2 ^ (8 * l.value-index))
