-- The invariant: the values so far, followed by what the bits that stand behind unpack to, are the whole.
use Rattle.std.proofs.Common.{◌≡◌, ◌*◌, ◌-◌, ◌++◌, take, length, replicate}
use Rattle.packing.specs.Packing.{unpacked}
use Rattle.packing.proofs.unpack.Given as goal

abbrev pub invariant-loop-value : goal.invariant-loop-value
invariant-loop-value g l =
    (length l.value-items ≡ length l.initial.value-items) × ((l.behind ≡ (length l.initial.value-items - l.value-index) * g.row.W) × (take l.value-index l.value-items ++ unpacked (replicate (length l.initial.value-items - l.value-index) g.row.W) l.n ≡ unpacked (replicate (length l.initial.value-items) g.row.W) l.n))
