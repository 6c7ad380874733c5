-- The window is stored with the field replaced.
use Prim.Native.Nat.{◌+◌, ◌-◌, ◌*◌, ◌/◌}
use native.Mathlib.Omega.{arith}
use Rattle.places.proofs.Laws.{put_window}
use Rattle.places.proofs.put_field.Goals as goal

pub returns : goal.returns
returns g c = let l = c.args.bytes.now in
    let w = c.args.width in
    let bit = c.args.bit in
    let v = c.args.value in
    let end = (bit + w + 7) / 8 in
    let s = end * 8 - (bit + w) in
    put_window l (λ i. (c.slice_known-1.given i).fits) (end - g.row.N) g.row.N (omega arith) s w bit v c.replaced-n.result _ c.pack.result c.unpack.new.values
    (omega arith) (omega arith) (omega arith) (omega arith) c.pack.ensures c.replaced-n.ensures c.unpack.ensures (λ i. (c.slice_known-2-1.given i).fits)
