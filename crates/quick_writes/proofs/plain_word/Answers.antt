-- As plain_byte.
use mathlib.Core.Path.{refl, sym, ◌∙◌}
use Rattle.refusals.proofs.Answers.{both_pass}
use Rattle.image.proofs.OpenLaws.{load_length}
use Rattle.entry.proofs.Held.{due}
use Rattle.quick_writes.proofs.WriteLaws.{write_taken, write_lent_to, word_closed, word_refused, word_done}
use Rattle.quick_writes.proofs.plain_word.Goals as goal

pub returns-in-Err : goal.returns-in-Err
returns-in-Err c = rw c.number-in-Err.ensures (word_closed _ _ _ _ _ _ _ (λ k. (c.slice_known-1.given k).fits) c.in-Err.ensures _ _ (due _))

pub used_at-requires : goal.used_at-requires
used_at-requires c = load_length _ (both_pass _ _ (sym c.in-Ok.ensures ∙ refl)).0

pub returns-in-Err-word_room : goal.returns-in-Err-word_room
returns-in-Err-word_room c = rw c.number-in-Err-word_room.ensures (word_refused _ _ _ _ _ _ _ (λ k. (c.slice_known-1.given k).fits) c.in-Ok.ensures _ _ refl c.used_at.ensures c.in-Err-word_room.ensures (due _))

pub put_word-requires : goal.put_word-requires
put_word-requires c = (write_taken c.args.rom.now c.args.sound.now _ _ _ _ _ (λ k. (c.slice_known-1.given k).fits) c.in-Ok.ensures refl, write_lent_to c.args.rom.now c.args.sound.now _ _ _ _ c.args.log.now (λ k. (c.slice_known-1.given k).fits) c.in-Ok.ensures refl)

pub returns-in-Ok-word_room : goal.returns-in-Ok-word_room
returns-in-Ok-word_room c = rw c.number.ensures (word_done _ _ _ _ _ _ _ (λ k. (c.slice_known-1.given k).fits) c.in-Ok.ensures _ _ refl c.used_at.ensures c.in-Ok-word_room.ensures refl c.word_owed.ensures c.put_word.ensures)
