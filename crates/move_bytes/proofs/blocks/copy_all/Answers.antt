-- One block more (`copied_more`), from the next multiple of 16 on.
use Rattle.std.proofs.Common.{◌≡◌, ◌+◌, ◌≤◌, refl, ◌∙◌, arith}
use Rattle.move_bytes.proofs.MoveLaws.{lent_vram, copied_none, copied_more, step_lands, step_within}
use Rattle.move_bytes.proofs.blocks.copy_all.Goals as goal

pub loop-i-init : goal.loop-i-init
loop-i-init c = (omega arith, (refl, (refl, copied_none c.requires.0 _ _)))

pub copy-requires : goal.copy-requires
copy-requires c = let L = c.loop-i.invariant in
    let P = c.requires in
    (lent_vram P.0 L.1.1.0, step_lands _ _ _ _ P.1 L.0 L.1.0 c.loop-i-test.true)

pub loop-i-preserved : goal.loop-i-preserved
loop-i-preserved c = let C = c.copy in
    let L = c.loop-i.invariant in
    let P = c.requires in
    (step_within _ _ _ _ P.1 L.0 L.1.0 c.loop-i-test.true, (omega (arith, L.1.0), (C.auto.vram ∙ L.1.1.0, copied_more P.0 _ _ _ L.1.1.1 C.ensures)))

pub returns-2 : goal.returns-2
returns-2 c = let L = c.loop-i.invariant in
    let P = c.requires in
    let i = c.loop-i.i in
    let s : i + 16 ≤ c.args.count = step_within _ _ _ _ P.1 L.0 L.1.0 c.loop-i-test.true in
    let e : i + 16 ≡ c.args.count = omega arith in
    rw (← e) (copied_more P.0 _ _ _ L.1.1.1 c.copy.ensures)
