-- Two halves.
use native.Mathlib.Omega.{arith}
use Prim.Native.Nat.{◌/◌, ◌%◌, ◌^◌}
use lib.Pow.{split}
use Rattle.places.proofs.Puts.{put_joined}
use Rattle.places.proofs.put_u64.Goals as goal

pub returns : goal.returns
returns c = let l = c.args.bytes.now in
    let bit = c.args.bit in
    let n = c.args.value in
    cc (put_joined l (λ i. (c.slice_known-1.given i).fits) bit 32 32 (n / 2 ^ 32) (n % 2 ^ 32) (omega arith) (omega arith), split n 32)
