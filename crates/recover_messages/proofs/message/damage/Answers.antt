-- The record behind the sound ones is damaged, where there is one.
use mathlib.Core.Path.{refl}
use Prim.Native.Nat.{◌/◌, ◌<◌}
use native.Mathlib.Omega.{arith}
use lib.ListN.{length}
use Rattle.savelog.proofs.Prefix.{length_records}
use Rattle.savelog.specs.Log.{width_of}
use Rattle.recover_text.proofs.Pieces.{puts_none, puts_as}
use Rattle.recover_messages.proofs.Choice.{no_damage, first_damage, record_length}
use Rattle.recover_messages.proofs.Scans.{width_within, inside}
use Rattle.recover_messages.proofs.message.damage.Goals as goal

pub returns-then-records_in-n : goal.returns-then-records_in-n
returns-then-records_in-n c = let a = c.args in puts_as (no_damage _ _ _ _ _ _ (omega (arith, c.sound_records-n.ensures.0, c.records_in.ensures.0, length_records a.form a.part.now))) (puts_none _ (omega arith))

pub overflow_add-to : goal.overflow_add-to
overflow_add-to c = let a = c.args in let h : c.sound_records-n.result < length a.part.now / width_of a.form = omega (arith, c.records_in.ensures.0, c.if-records_in-n.false) in let i = inside a.form c.sound_records-n.result (length a.part.now) h in record { fits = omega (arith, i, c.bytes_of-from.ensures, c.len.ensures) }

pub slice_bounds-damaged-end : goal.slice_bounds-damaged-end
slice_bounds-damaged-end c = let a = c.args in let h : c.sound_records-n.result < length a.part.now / width_of a.form = omega (arith, c.records_in.ensures.0, c.if-records_in-n.false) in let i = inside a.form c.sound_records-n.result (length a.part.now) h in omega (arith, i, c.bytes_of-from.ensures, c.len.ensures)

pub damaged-requires : goal.damaged-requires
damaged-requires c = let a = c.args in let h : c.sound_records-n.result < length a.part.now / width_of a.form = omega (arith, c.records_in.ensures.0, c.if-records_in-n.false) in let i = inside a.form c.sound_records-n.result (length a.part.now) h in (omega (arith, c.requires.0), omega (arith, (width_within a.form).1, record_length a.name.now a.form a.len a.s a.part.now a.ram c.sound_records-n.result _ _ _ c.bytes_of-from.ensures c.len.ensures refl (omega (arith, i, c.bytes_of-from.ensures, c.len.ensures))))

pub returns : goal.returns
returns c = let a = c.args in puts_as (first_damage a.name.now a.form a.len a.s a.part.now a.ram c.sound_records-n.result _ _ _ c.bytes_of-from.ensures c.len.ensures refl _ c.records_in-before.ensures.0 c.sound_records-n.ensures.0 (omega (arith, c.records_in.ensures.0, c.if-records_in-n.false, length_records a.form a.part.now))) c.damaged.ensures
