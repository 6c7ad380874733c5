-- Each part is stored behind the one before.
use mathlib.Core.Path.{◌≡◌, ap, ◌∙◌}
use lib.ListN.{length}
use Rattle.packing.specs.Packing.{eights, fives}
use Rattle.memory.proofs.Laws.{range_background, range_sprites}
use Rattle.image.specs.Layout.{channels}
use Rattle.image.specs.Patches.{arrays_of}
use Rattle.image.proofs.Parts.{stored_parts, repacked_length}
use Rattle.image.proofs.StateLaws.{storable_state}
use Rattle.image.proofs.put_arrays.Goals as goal

pub bytes_of-background-requires : goal.bytes_of-background-requires
bytes_of-background-requires c = range_background c.args.memory (storable_state c.args.memory c.requires.1)

pub bytes_of-sprites-requires : goal.bytes_of-sprites-requires
bytes_of-sprites-requires c = range_sprites c.args.memory (storable_state c.args.memory c.requires.1)

pub returns : goal.returns
unfolding arrays_of
returns c = let m = c.args.memory in
    let t = c.typed.ensures in
    let b : length c.bytes_of-background.result ≡ 60 = ap length c.bytes_of-background.ensures ∙ repacked_length (fives 96) (eights 60) (channels m.background) in
    let s : length c.bytes_of-sprites.result ≡ 60 = ap length c.bytes_of-sprites.ensures ∙ repacked_length (fives 96) (eights 60) (channels m.sprites) in
    stored_parts c.args.image.now m.oam m.page c.bytes_of-background.result c.bytes_of-sprites.result c.requires.0 t.oam.0 t.page.0 b s
    c.put.new.out c.put-2.new.out c.put-3.new.out c.put-4.new.out
    c.put.ensures c.put-2.ensures c.put-3.ensures c.put-4.ensures
    ∙ rw (c.bytes_of-background.ensures, c.bytes_of-sprites.ensures)
