-- One value more is taken out (`unpack_more`); at the end none is left.
use Rattle.std.proofs.Common.{arith, length, replicate, length-set}
use Rattle.packing.proofs.Steps.{unpack_more}
use Rattle.packing.specs.Packing.{unpacked}
use Rattle.packing.proofs.unpack.Goals as goal

pub loop-value-preserved : goal.loop-value-preserved
loop-value-preserved g c =
    let v = c.loop-value in
    (simp length-set v.invariant.0, unpack_more g.row.W v.value-index (length c.args.values.now) v.behind c.args.n v.value-items (unpacked (replicate (length c.args.values.now) g.row.W) c.args.n) c.requires.0 v.invariant.0 (omega arith) v.invariant.1.0 v.invariant.1.1)
