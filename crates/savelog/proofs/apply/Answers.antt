-- Playing what is left of the log over the save as it is gives what playing the whole over the first save gives: each turn plays one record.
use mathlib.Core.Path.{sym, ◌∙◌}
use native.Mathlib.Omega.{arith}
use lib.ListN.{length-set}
use Rattle.std.specs.Slice.Iter.{chunks_exact_rest}
use Rattle.savelog.specs.Log.{Four}
use Rattle.savelog.proofs.Laws.{sound_next, applied, apply_all_end}
use Rattle.savelog.proofs.apply.Goals as goal

pub bounds-save-rec : goal.bounds-save-rec
bounds-save-rec c = let v = c.loop-bytes in
    let t = c.in-Some.ensures.steps in
    omega (arith, v.invariant.1, (sound_next Four c.in-Some.bytes.now (chunks_exact_rest c.next.new.self) t.1.0 (t.1.1 ∙ v.invariant.0) c.record_of-rec.ensures _ v.invariant.2).0)

pub loop-bytes-preserved : goal.loop-bytes-preserved
loop-bytes-preserved c = let v = c.loop-bytes in
    let t = c.in-Some.ensures.steps in
    let b = c.in-Some.bytes.now in
    let m = chunks_exact_rest c.next.new.self in
    let n = t.1.1 ∙ v.invariant.0 in
    let e = c.record_of-rec.ensures in (
      t.0 ∙ v.invariant.0,
      simp length-set v.invariant.1,
      (sound_next Four b m t.1.0 n e _ v.invariant.2).1,
      v.invariant.3 ∙ applied Four b m t.1.0 n e v.save,
    )

pub returns : goal.returns
returns c = let v = c.loop-bytes in
    let t = c.in-None.ensures.steps in
    sym (v.invariant.3 ∙ apply_all_end Four v.save (chunks_exact_rest v.bytes-iterator) (rw v.invariant.0 at t.1.0))
