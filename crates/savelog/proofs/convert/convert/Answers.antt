-- Each way out is a case of `conversion`: what `has_room` and `sound` answered decides it.
use mathlib.Core.Path.{sym, ap, ◌∙◌}
use Prim.Native.Nat.{ℕ}
use borrow.Author.Tests.{not-true, not-false}
use Rattle.savelog.specs.Log.{records_by, all_sound}
use Rattle.savelog.proofs.Converts.{by_sound}
use Rattle.savelog.proofs.convert.convert.Goals as goal

pub returns-then-not-sound : goal.returns-then-not-sound
returns-then-not-sound c = let a = c.args in
    rw (
      by_sound a.from a.to a.source.now a.target.now,
      sym c.has_room.ensures ∙ not-false _ c.if-not-has_room.false-raw,
      ap (λ (e : ℕ). all_sound e (records_by a.from a.source.now)) (sym c.end.ensures) ∙ sym c.sound.ensures ∙ not-true _ c.if-not-sound.true-raw,
    )

pub write_all-requires : goal.write_all-requires
write_all-requires c = let a = c.args in (
  sym c.has_room.ensures ∙ not-false _ c.if-not-has_room.false-raw,
  ap (λ (e : ℕ). all_sound e (records_by a.from a.source.now)) (sym c.end.ensures)
      ∙ sym c.sound.ensures
      ∙ not-false _ c.if-not-sound.false-raw,
)

pub returns : goal.returns
returns c = let a = c.args in
    rw (
      by_sound a.from a.to a.source.now a.target.now,
      sym c.has_room.ensures ∙ not-false _ c.if-not-has_room.false-raw,
      ap (λ (e : ℕ). all_sound e (records_by a.from a.source.now)) (sym c.end.ensures)
          ∙ sym c.sound.ensures
          ∙ not-false _ c.if-not-sound.false-raw,
      c.write_all.ensures.0,
      c.write_all.ensures.1,
    )
