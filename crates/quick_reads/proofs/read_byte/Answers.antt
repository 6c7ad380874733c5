-- Where the tests pass, the byte in place; elsewhere plainly.
use Rattle.std.proofs.Common.{refl}
use Rattle.memory.specs.World.{fixed}
use Rattle.packing.specs.Packing.{Below}
use Rattle.take_bytes.proofs.ByteLaws.{surely_passes}
use Rattle.quick_reads.proofs.ReadLaws.{surely_ready, done_byte_read}
use Rattle.quick_reads.proofs.read_byte.Goals as goal

pub rest_surely_fits-requires : goal.rest_surely_fits-requires
rest_surely_fits-requires c = (c.mapper_surely_fits.ensures c.if-mapper_surely_fits.true).size

pub one_at-requires : goal.one_at-requires
one_at-requires c = let a = c.args in
    let x = fixed a.rom.now a.sound.now in
    let below : Below 256 a.image.now = λ k. (c.shared_slice_known-1.given k).fits in
    let p = c.mapper_surely_fits.ensures c.if-mapper_surely_fits.true in
    let q = c.rest_surely_fits.ensures c.if-rest_surely_fits.true in
    surely_ready x a.image.now a.vram.now a.wram.now a.save.now below p q c.if-sound-eq-SOUND_LEN.true

pub returns-then-sound-eq-SOUND_LEN : goal.returns-then-sound-eq-SOUND_LEN
returns-then-sound-eq-SOUND_LEN c = let a = c.args in
    let x = fixed a.rom.now a.sound.now in
    let below : Below 256 a.image.now = λ k. (c.shared_slice_known-1.given k).fits in
    let p = c.mapper_surely_fits.ensures c.if-mapper_surely_fits.true in
    let q = c.rest_surely_fits.ensures c.if-rest_surely_fits.true in
    done_byte_read x a.image.now a.vram.now a.wram.now a.save.now (surely_passes x a.image.now a.vram.now a.wram.now a.save.now below p q c.if-sound-eq-SOUND_LEN.true) refl _ c.one_at.ensures

pub returns : goal.returns
returns c = c.plain_byte.ensures
