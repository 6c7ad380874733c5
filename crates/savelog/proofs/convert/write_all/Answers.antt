-- The target so far, with what the rest of the source will put, is what the whole source puts: each turn writes one record.
use mathlib.Core.Path.{ap, sym, ◌∙◌}
use Prim.Native.Nat.{ℕ, ◌+◌, ◌-◌, ◌≤◌}
use native.Mathlib.Omega.{arith}
use lib.ListN.{length, drop, length-take}
use native.Mathlib.Nat.{min-le_left}
use Rattle.std.specs.Slice.Iter.{chunks_exact_rest}
use Rattle.savelog.specs.Log.{width_of, end_of}
use Rattle.savelog.proofs.Laws.{placed, put_place, sound_next, width_most}
use Rattle.savelog.proofs.Converts.{room_step, room_end, roomy, so_far_step, so_far_end, placed_length}
use Rattle.savelog.proofs.convert.write_all.Goals as goal

pub slice_bounds-put_number-end : goal.slice_bounds-put_number-end
slice_bounds-put_number-end c = let a = c.args in
    let v = c.loop-bytes in
    let t = c.in-Some.ensures.steps in
    let r = roomy a.from a.to (length a.source.now) (length a.target.now) c.requires.0 in
    let g = room_step a.from a.to c.in-Some.bytes.now (chunks_exact_rest c.next.new.self) t.1.0 (t.1.1 ∙ v.invariant.0) v.o _ v.invariant.3 in
    omega (arith, v.invariant.1, v.invariant.2, g.0, r.target)

pub put_number-requires : goal.put_number-requires
put_number-requires c = let v = c.loop-bytes in
    rw length-take (omega (arith, v.invariant.1, width_most c.args.to, min-le_left (v.o + c.len-more.result - v.o) (length (drop v.o v.target))))

pub number-requires : goal.number-requires
number-requires c = let a = c.args in
    let v = c.loop-bytes in
    let t = c.in-Some.ensures.steps in
    (sound_next a.from c.in-Some.bytes.now (chunks_exact_rest c.next.new.self) t.1.0 (t.1.1 ∙ v.invariant.0) c.record_of-rec.ensures (end_of a.to) v.invariant.4).0

pub loop-bytes-preserved : goal.loop-bytes-preserved
loop-bytes-preserved c = let a = c.args in
    let v = c.loop-bytes in
    let t = c.in-Some.ensures.steps in
    let b = c.in-Some.bytes.now in
    let m = chunks_exact_rest c.next.new.self in
    let n = t.1.1 ∙ v.invariant.0 in
    let e = c.record_of-rec.ensures in
    let r = roomy a.from a.to (length a.source.now) (length a.target.now) c.requires.0 in
    let g = room_step a.from a.to b m t.1.0 n v.o _ v.invariant.3 in
    let k : v.o + width_of a.to ≤ length v.target = omega (arith, v.invariant.2, g.0, r.target) in
    let p =
    put_place v.target v.o c.len-more.result c.number.result (rw v.invariant.1 k) c.put_number.ensures
    ∙ ap (λ (w : ℕ). placed v.target v.o w c.number.result) v.invariant.1
    ∙ ap (placed v.target v.o (width_of a.to)) c.number.ensures in
    rw p (
      t.0 ∙ v.invariant.0,
      v.invariant.1,
      placed_length v.target v.o (width_of a.to) _ k ∙ v.invariant.2,
      rw v.invariant.1 g.1,
      (sound_next a.from b m t.1.0 n e (end_of a.to) v.invariant.4).1,
      rw v.invariant.1 (v.invariant.5 ∙ so_far_step a.from a.to b m t.1.0 n e v.target v.o _ (omega arith) g.0),
    )

pub overflow_cast-result : goal.overflow_cast-result
overflow_cast-result c = let a = c.args in
    let v = c.loop-bytes in
    let t = c.in-None.ensures.steps in
    let r = roomy a.from a.to (length a.source.now) (length a.target.now) c.requires.0 in
    omega (arith, r.log, room_end a.from a.to (length (chunks_exact_rest v.bytes-iterator)) v.o _ (rw v.invariant.0 at t.1.0) v.invariant.3)

pub returns : goal.returns
returns c = let a = c.args in
    let v = c.loop-bytes in
    let h = rw v.invariant.0 at (c.in-None.ensures.steps).1.0 in
    let s = chunks_exact_rest v.bytes-iterator in
    let e = room_end a.from a.to (length s) v.o _ h v.invariant.3 in
    (sym (v.invariant.5 ∙ so_far_end a.from a.to s v.target v.o _ h e), e)
