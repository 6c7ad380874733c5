-- What is left of the log is sound exactly if the whole is: each turn takes one record off.
use mathlib.Core.Path.{◌≡◌, sym, ◌∙◌}
use mathlib.Core.List.{◌++◌}
use Prim.Native.Nat.{◌-◌}
use native.Mathlib.Omega.{arith}
use lib.ListN.{length, take, drop, length-drop, take-append-drop}
use lib.Seq.{take_all}
use Rattle.savelog.proofs.Laws.{all_sound_end, stops, goes}
use Rattle.savelog.proofs.sound.Goals as goal

pub returns-then-not-sound_record : goal.returns-then-not-sound_record
returns-then-not-sound_record c = let v = c.loop-bytes in
    let p = c.in-Some.ensures.lookup.0 in
    let b = c.in-Some.bytes.now in
    let m = drop c.len-len.result v.rest.now in
    let z : c.len-len.result - 0 ≡ c.len-len.result = omega arith in
    let s : v.rest.now ≡ b ++ m = rw (p.2, z) (sym (take-append-drop c.len-len.result v.rest.now)) in
    stops c.args.form b m s (omega (arith, p.3, v.invariant.0)) c.record_of.ensures c.args.ram c.sound_record.ensures c.if-not-sound_record.true
    ∙ sym v.invariant.1

pub loop-bytes-preserved : goal.loop-bytes-preserved
loop-bytes-preserved c = let v = c.loop-bytes in
    let p = c.in-Some.ensures.lookup.0 in
    let b = c.in-Some.bytes.now in
    let m = drop c.len-len.result v.rest.now in
    let z : c.len-len.result - 0 ≡ c.len-len.result = omega arith in
    let s : v.rest.now ≡ b ++ m = rw (p.2, z) (sym (take-append-drop c.len-len.result v.rest.now)) in
    let a : take (length v.rest.now - c.len-len.result) m ≡ m = take_all (length v.rest.now - c.len-len.result) m (rw length-drop (omega arith)) in (
      v.invariant.0,
      rw a (v.invariant.1 ∙ goes c.args.form b m s (omega (arith, p.3, v.invariant.0)) c.record_of.ensures c.args.ram c.sound_record.ensures c.if-not-sound_record.false),
    )

pub returns : goal.returns
returns c = let v = c.loop-bytes in
    let p = c.in_default.ensures.lookup in
    sym (v.invariant.1 ∙ all_sound_end c.args.form c.args.ram v.rest.now (omega (arith, p.0, v.invariant.0)))
