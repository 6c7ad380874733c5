-- After the first write the image is taken again, and what is lent has its lengths (`taken_write`).
use mathlib.Core.Path.{◌≡◌}
use Prim.Native.Nat.{◌/◌, ◌%◌, ◌<◌}
use native.Mathlib.Omega.{arith}
use lib.ListN.{get_or}
use Rattle.memory.specs.World.{fixed}
use Rattle.mmu.specs.Write.{word_at}
use Rattle.quick_writes.proofs.WriteLaws.{taken_write}
use Rattle.quick_writes.proofs.put_word.Goals as goal

pub put_all-requires-2 : goal.put_all-requires-2
put_all-requires-2 c =
    let b : get_or c.to_le_bytes.result 0 0 < 256 = rw c.to_le_bytes.ensures (omega arith) in
    (taken_write (fixed c.args.rom.now c.args.sound.now) (λ k. (c.shared_slice_known-1.given k).fits) (λ k. (c.shared_slice_known-2-1.given k).fits) c.requires.0 c.requires.1
    (λ k. (c.slice_known-2-1.given k).fits) (λ k. (c.slice_known-3-1.given k).fits) (λ k. (c.slice_known-4-1.given k).fits) _ _ b c.put_all.ensures).0

pub returns : goal.returns
unfolding word_at
returns c =
    let low : get_or c.to_le_bytes.result 0 0 ≡ c.args.value % 256 = rw c.to_le_bytes.ensures (omega arith) in
    let high : get_or c.to_le_bytes.result 1 0 ≡ c.args.value / 256 = rw c.to_le_bytes.ensures (omega arith) in
    rw (← low, ← high) (rw (
      (taken_write (fixed c.args.rom.now c.args.sound.now) (λ k. (c.shared_slice_known-1.given k).fits) (λ k. (c.shared_slice_known-2-1.given k).fits) c.requires.0 c.requires.1
          (λ k. (c.slice_known-2-1.given k).fits) (λ k. (c.slice_known-3-1.given k).fits) (λ k. (c.slice_known-4-1.given k).fits) _ _ (omega (arith, low)) c.put_all.ensures).1,
      c.next_index-above.ensures,
    ) at c.put_all-2.ensures)
