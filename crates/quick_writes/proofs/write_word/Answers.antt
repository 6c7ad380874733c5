-- Where the tests pass and no transfer starts, both bytes by their regions; elsewhere plainly.
use mathlib.Core.Path.{refl}
use Rattle.packing.specs.Packing.{Below}
use Rattle.entry.proofs.Held.{due}
use Rattle.quick_writes.proofs.WriteLaws.{surely_writes, write_taken, put_both_quick, word_refused, word_done}
use Rattle.quick_writes.proofs.write_word.Goals as goal

pub rest_surely_fits-requires : goal.rest_surely_fits-requires
rest_surely_fits-requires c = (c.mapper_surely_fits.ensures c.if-mapper_surely_fits.true).size

pub log_fits-requires : goal.log_fits-requires
log_fits-requires c = (c.mapper_surely_fits.ensures c.if-mapper_surely_fits.true).size

pub used_at-requires : goal.used_at-requires
used_at-requires c = (c.mapper_surely_fits.ensures c.if-mapper_surely_fits.true).size

pub put_both-requires : goal.put_both-requires
put_both-requires c = let a = c.args in
    let below : Below 256 a.image.now = λ k. (c.slice_known-1.given k).fits in
    let e = surely_writes a.rom.now a.sound.now a.image.now a.vram.now a.wram.now a.save.now a.log.now below (c.mapper_surely_fits.ensures c.if-mapper_surely_fits.true) (c.rest_surely_fits.ensures c.if-rest_surely_fits.true) (c.log_fits.ensures c.if-log_fits.true) in
    write_taken a.rom.now a.sound.now a.image.now a.vram.now a.wram.now a.save.now a.log.now below e refl

pub returns-in-Err : goal.returns-in-Err
returns-in-Err c = rw c.number-in-Err.ensures (let a = c.args in
    let below : Below 256 a.image.now = λ k. (c.slice_known-1.given k).fits in
    let e = surely_writes a.rom.now a.sound.now a.image.now a.vram.now a.wram.now a.save.now a.log.now below (c.mapper_surely_fits.ensures c.if-mapper_surely_fits.true) (c.rest_surely_fits.ensures c.if-rest_surely_fits.true) (c.log_fits.ensures c.if-log_fits.true) in
    word_refused a.rom.now a.sound.now a.image.now a.vram.now a.wram.now a.save.now a.log.now below e _ _ refl c.used_at.ensures c.in-Err.ensures (due _))

pub returns-in-Ok : goal.returns-in-Ok
returns-in-Ok c = rw c.number.ensures (let a = c.args in
    let below : Below 256 a.image.now = λ k. (c.slice_known-1.given k).fits in
    let e = surely_writes a.rom.now a.sound.now a.image.now a.vram.now a.wram.now a.save.now a.log.now below (c.mapper_surely_fits.ensures c.if-mapper_surely_fits.true) (c.rest_surely_fits.ensures c.if-rest_surely_fits.true) (c.log_fits.ensures c.if-log_fits.true) in
    word_done a.rom.now a.sound.now a.image.now a.vram.now a.wram.now a.save.now a.log.now below e _ _ refl c.used_at.ensures c.in-Ok.ensures refl c.word_owed.ensures (put_both_quick _ _ _ _ _ (c.both_quick.ensures c.if-both_quick.true) c.put_both.ensures))
