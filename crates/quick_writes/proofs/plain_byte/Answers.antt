-- Refused, or written: then the image is taken, and what is lent has its lengths (`write_taken`).
use mathlib.Core.Path.{refl, sym, ◌∙◌}
use Rattle.image.proofs.OpenLaws.{load_length}
use Rattle.refusals.proofs.Answers.{both_pass}
use Rattle.entry.proofs.Held.{due}
use Rattle.quick_writes.proofs.WriteLaws.{write_taken, write_lent_to, byte_closed, byte_refused, byte_done}
use Rattle.quick_writes.proofs.plain_byte.Goals as goal

pub returns-in-Err : goal.returns-in-Err
returns-in-Err c = rw c.number-in-Err.ensures (byte_closed _ _ _ _ _ _ _ (λ k. (c.slice_known-1.given k).fits) c.in-Err.ensures _ _ (due _))

pub used_at-requires : goal.used_at-requires
used_at-requires c = load_length _ (both_pass _ _ (sym c.in-Ok.ensures ∙ refl)).0

pub returns-in-Err-byte_room : goal.returns-in-Err-byte_room
returns-in-Err-byte_room c = rw c.number-in-Err-byte_room.ensures (byte_refused _ _ _ _ _ _ _ (λ k. (c.slice_known-1.given k).fits) c.in-Ok.ensures _ _ refl c.used_at.ensures c.in-Err-byte_room.ensures (due _))

pub put_all-requires : goal.put_all-requires
put_all-requires c = (write_taken c.args.rom.now c.args.sound.now _ _ _ _ _ (λ k. (c.slice_known-1.given k).fits) c.in-Ok.ensures refl, write_lent_to c.args.rom.now c.args.sound.now _ _ _ _ c.args.log.now (λ k. (c.slice_known-1.given k).fits) c.in-Ok.ensures refl)

pub returns-in-Ok-byte_room : goal.returns-in-Ok-byte_room
returns-in-Ok-byte_room c = rw c.number.ensures (byte_done _ _ _ _ _ _ _ (λ k. (c.slice_known-1.given k).fits) c.in-Ok.ensures _ _ refl c.used_at.ensures c.in-Ok-byte_room.ensures refl c.byte_owed.ensures c.put_all.ensures)
