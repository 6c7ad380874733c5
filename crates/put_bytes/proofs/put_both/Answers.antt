-- After the first write the image is taken again (`taken_put`).
use mathlib.Core.Path.{◌≡◌}
use Prim.Native.Nat.{◌/◌, ◌%◌, ◌<◌}
use native.Mathlib.Omega.{arith}
use lib.ListN.{get_or}
use Rattle.put_bytes.proofs.PutLaws.{taken_put}
use Rattle.put_bytes.proofs.put_both.Goals as goal

pub put_here-requires-2 : goal.put_here-requires-2
put_here-requires-2 c =
    let b : get_or c.to_le_bytes.result 0 0 < 256 = rw c.to_le_bytes.ensures (omega arith) in
    (taken_put c.requires _ _ b c.put_here.ensures).0

pub returns : goal.returns
returns c =
    let low : get_or c.to_le_bytes.result 0 0 ≡ c.args.value % 256 = rw c.to_le_bytes.ensures (omega arith) in
    let high : get_or c.to_le_bytes.result 1 0 ≡ c.args.value / 256 = rw c.to_le_bytes.ensures (omega arith) in
    rw (← low, ← high) (rw ((taken_put c.requires _ _ (omega (arith, low)) c.put_here.ensures).1, c.next_index-above.ensures) at c.put_here-2.ensures)
