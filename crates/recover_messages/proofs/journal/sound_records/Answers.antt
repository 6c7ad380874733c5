-- The n records so far are sound; each turn passes one more, or stops.
use mathlib.Core.Path.{◌≡◌, sym, ap, ◌∙◌}
use Prim.Native.Nat.{◌*◌, ◌/◌, ◌<◌, ◌≤◌}
use native.Mathlib.Omega.{arith}
use lib.ListN.{length}
use Rattle.savelog.specs.Log.{width_of, sound_record, records_by}
use Rattle.recover_messages.proofs.Scans.{first_within, first_stops, first_goes, first_ends, inside, behind_next, none_left, first_here}
use Rattle.recover_messages.specs.Journal.{sound_first}
use Rattle.recover_messages.proofs.journal.sound_records.Goals as goal

pub loop-n-init : goal.loop-n-init
loop-n-init c = first_here c.args.form c.args.ram c.args.part.now

pub returns-then-not-sound_record : goal.returns-then-not-sound_record
returns-then-not-sound_record c =
    let l = c.loop-n in
    let a = c.args in
    let p = a.part.now in
    let t : l.n < length p / width_of a.form = rw c.len-len.ensures at c.loop-n-test.true in
    let d = sym (c.if-not-sound_record.ensures ∙ ap (sound_record a.ram) (rw c.len-len.ensures at c.record_at-rec.ensures)) in
    let e : sound_first a.ram (records_by a.form p) ≡ l.n = l.invariant ∙ omega (arith, first_stops a.form a.ram p (l.n * width_of a.form) (inside a.form l.n (length p) t) d) in
    (sym e, omega (arith, e, first_within a.ram (records_by a.form p)))

pub loop-n-preserved : goal.loop-n-preserved
loop-n-preserved c =
    let l = c.loop-n in
    let a = c.args in
    let p = a.part.now in
    let t : l.n < length p / width_of a.form = rw c.len-len.ensures at c.loop-n-test.true in
    let d = sym (c.if-not-sound_record.ensures ∙ ap (sound_record a.ram) (rw c.len-len.ensures at c.record_at-rec.ensures)) in
    let g = first_goes a.form a.ram p (l.n * width_of a.form) (inside a.form l.n (length p) t) d in
    rw (behind_next a.form l.n) (l.invariant ∙ omega (arith, g))

pub returns : goal.returns
returns c =
    let l = c.loop-n in
    let a = c.args in
    let p = a.part.now in
    let t : length p / width_of a.form ≤ l.n = rw c.len-len.ensures at c.loop-n-test.false in
    let k : l.n ≤ length p / width_of a.form = rw c.len-len.ensures at c.loop-n.auto.n-end in
    let e : sound_first a.ram (records_by a.form p) ≡ l.n = l.invariant ∙ omega (arith, first_ends a.form a.ram p (l.n * width_of a.form) (none_left a.form l.n (length p) t)) in
    rw c.len-len.ensures (omega (arith, e), omega (arith, e, first_within a.ram (records_by a.form p)))
