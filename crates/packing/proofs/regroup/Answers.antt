-- One turn (`run_placed`), and the end, where no group is left.
use Rattle.std.proofs.Common.{sym, ◌∙◌, arith}
use Rattle.packing.proofs.Runs.{run_placed, run_end}
use Rattle.packing.proofs.regroup.Goals as goal

pub loop-group-preserved : goal.loop-group-preserved
loop-group-preserved g c =
    let p = g.row.P in
    let u = g.row.U in
    let q = g.row.Q in
    let w = g.row.W in
    let v = c.loop-group in
    run_placed p u q w 12 c.args.values.now c.requires.1.0 c.requires.1.1.0 c.requires.1.1.1.1 v.out c.unpack.new.values v.group _ _ c.pack-n.result
    c.loop-group-test.true v.invariant.0 (omega arith) (omega arith) c.pack-n.ensures c.unpack.ensures v.invariant.1

pub returns : goal.returns
returns g c =
    let p = g.row.P in
    let u = g.row.U in
    let q = g.row.Q in
    let w = g.row.W in
    let v = c.loop-group in
    sym (run_end p u q w 12 c.args.values.now c.requires.1.0 c.requires.1.1.0 c.requires.1.1.1.1 v.out v.group (omega arith) v.invariant.0) ∙ v.invariant.1
