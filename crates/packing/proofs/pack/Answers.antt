-- One more value (`pack_more`); nothing is shifted out.
use Rattle.std.proofs.Common.{◌*◌, ◌<◌, suc, get_or, length, Fits, w8, rules, arith}
use native.Mathlib.Numerals.{add-one}
use lib.Pow.{pow_mono}
use Rattle.packing.proofs.Steps.{pack_more, pack_lt, shifted}
use Rattle.packing.proofs.pack.Goals as goal

pub overflow_add-n : goal.overflow_add-n
overflow_add-n g c =
    let k = c.loop-value.value-index in
    let n = c.loop-value.n in
    let v = get_or c.args.values.now k 0 in
    let b : Fits w8 v = search rules in
    let s = pack_lt g.row.W k n v c.requires.0 c.loop-value.invariant.1 b.fits in
    let m = pow_mono {i = 8 * suc k} {j = 64} (omega arith) in
    rw (shifted g.row.W k n v c.requires.0 c.loop-value.invariant.1 b.fits (omega arith)) (record { fits = omega (arith, s, m) })

pub loop-value-preserved : goal.loop-value-preserved
loop-value-preserved g c =
    let k = c.loop-value.value-index in
    let n = c.loop-value.n in
    let v = get_or c.args.values.now k 0 in
    let b : Fits w8 v = search rules in
    let h : k < length c.args.values.now = omega arith in
    rw (shifted g.row.W k n v c.requires.0 c.loop-value.invariant.1 b.fits (omega arith), add-one k)
    (rw (pack_more g.row.W k c.args.values.now h, c.loop-value.invariant.0), pack_lt g.row.W k n v c.requires.0 c.loop-value.invariant.1 b.fits)
