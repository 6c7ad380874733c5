-- The two ends of a save write (`save_full`, `save_done`); what the mapper answers lies in the save (`answer_lands`).
use Rattle.mmu.proofs.Places.{answer_lands, save_full, save_done}
use Rattle.mbc.specs.declared.mbc.Written.{Written}
use Rattle.mbc.proofs.Laws.{mapped_ram}
use Rattle.savelog.proofs.Use.{has_room}
use Rattle.std.proofs.Common.{sym, ap, ◌∙◌}
use Rattle.mmu.proofs.regions.store_save.Goals as goal

pub returns-then-full : goal.returns-then-full
returns-then-full c = λ m p q e. save_full m p q e _ _ _ _ (sym c.full.ensures ∙ c.if-full.true)

pub write-written-requires : goal.write-written-requires
write-written-requires c = (c.requires.1.0, mapped_ram _ c.requires.0.0 c.requires.0.1)

pub store_answer-more-requires : goal.store_answer-more-requires
store_answer-more-requires c = (answer_lands _ _ _ _ c.ranges.value.fits (ap (λ (k : Written). k.answer) c.write-written.ensures) c.requires.1.1.0, (has_room _ _ 1 (sym c.full.ensures ∙ c.if-full.false), c.requires.1.1.1))

pub returns : goal.returns
returns c = λ m p q e. save_done m p q e _ _ _ _ (sym c.full.ensures ∙ c.if-full.false) (ap (λ (k : Written). k.mapper) c.write-written.ensures) (ap (λ (k : Written). k.answer) c.write-written.ensures) c.store_answer-more.ensures
