-- The image's length, what refuses the start, or both done.
use Rattle.entry.proofs.Entries.{fresh_length, fresh_refused, fresh_done}
use Rattle.entry.proofs.Laws.{fresh_storable}
use Rattle.entry.proofs.Held.{due}
use Rattle.std.proofs.Common.{refl}
use Rattle.host.proofs.lent.put_fresh.Goals as goal

pub returns-then-image-ne-LENGTH : goal.returns-then-image-ne-LENGTH
returns-then-image-ne-LENGTH c = fresh_length _ _ _ _ c.if-image-ne-LENGTH.true

pub returns-in-Err : goal.returns-in-Err
returns-in-Err c = fresh_refused _ _ _ c.if-image-ne-LENGTH.false _ _ c.in-Err.ensures (due _)

pub store-requires : goal.store-requires
store-requires c = (c.if-image-ne-LENGTH.false, fresh_storable _ _ _ _ c.args.rom.now c.args.vram.now c.args.wram.now c.args.save.now c.args.log.now c.args.sound.now c.in-Ok.ensures refl)

pub returns-in-Ok : goal.returns-in-Ok
returns-in-Ok c = fresh_done _ _ _ c.if-image-ne-LENGTH.false _ _ c.in-Ok.ensures refl c.store.ensures
