-- Where the tests pass, the byte by its region; elsewhere plainly.
use mathlib.Core.Path.{refl}
use Rattle.packing.specs.Packing.{Below}
use Rattle.entry.proofs.Held.{due}
use Rattle.quick_writes.proofs.WriteLaws.{surely_writes, write_taken, put_quick, byte_refused, byte_done}
use Rattle.quick_writes.proofs.write_byte.Goals as goal

pub rest_surely_fits-requires : goal.rest_surely_fits-requires
rest_surely_fits-requires c = (c.mapper_surely_fits.ensures c.if-mapper_surely_fits.true).size

pub log_fits-requires : goal.log_fits-requires
log_fits-requires c = (c.mapper_surely_fits.ensures c.if-mapper_surely_fits.true).size

pub used_at-requires : goal.used_at-requires
used_at-requires c = (c.mapper_surely_fits.ensures c.if-mapper_surely_fits.true).size

pub put_here-requires : goal.put_here-requires
put_here-requires c = let a = c.args in
    let below : Below 256 a.image.now = λ k. (c.slice_known-1.given k).fits in
    let e = surely_writes a.rom.now a.sound.now a.image.now a.vram.now a.wram.now a.save.now a.log.now below (c.mapper_surely_fits.ensures c.if-mapper_surely_fits.true) (c.rest_surely_fits.ensures c.if-rest_surely_fits.true) (c.log_fits.ensures c.if-log_fits.true) in
    write_taken a.rom.now a.sound.now a.image.now a.vram.now a.wram.now a.save.now a.log.now below e refl

pub returns-in-Err : goal.returns-in-Err
returns-in-Err c = rw c.number-in-Err.ensures (let a = c.args in
    let below : Below 256 a.image.now = λ k. (c.slice_known-1.given k).fits in
    let e = surely_writes a.rom.now a.sound.now a.image.now a.vram.now a.wram.now a.save.now a.log.now below (c.mapper_surely_fits.ensures c.if-mapper_surely_fits.true) (c.rest_surely_fits.ensures c.if-rest_surely_fits.true) (c.log_fits.ensures c.if-log_fits.true) in
    byte_refused a.rom.now a.sound.now a.image.now a.vram.now a.wram.now a.save.now a.log.now below e _ _ refl c.used_at.ensures c.in-Err.ensures (due _))

pub returns-in-Ok : goal.returns-in-Ok
returns-in-Ok c = rw c.number.ensures (let a = c.args in
    let below : Below 256 a.image.now = λ k. (c.slice_known-1.given k).fits in
    let e = surely_writes a.rom.now a.sound.now a.image.now a.vram.now a.wram.now a.save.now a.log.now below (c.mapper_surely_fits.ensures c.if-mapper_surely_fits.true) (c.rest_surely_fits.ensures c.if-rest_surely_fits.true) (c.log_fits.ensures c.if-log_fits.true) in
    byte_done a.rom.now a.sound.now a.image.now a.vram.now a.wram.now a.save.now a.log.now below e _ _ refl c.used_at.ensures c.in-Ok.ensures refl c.byte_owed.ensures (put_quick a.rom.now a.sound.now _ _ _ c.is_quick.ensures c.if-is_quick.true c.put_here.ensures))
