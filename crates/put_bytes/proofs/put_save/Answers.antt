-- A log without room; a mapper that keeps its registers: then the use alone is put (`mapping_kept`); one that does not: the use over it (`used_over`).
use mathlib.Core.Path.{refl, sym, ◌∙◌}
use native.Mathlib.Omega.{arith}
use Rattle.image.proofs.PatchLaws.{mapping_kept, used_over}
use Rattle.mbc.specs.Mbc.{after}
use Rattle.mmu.proofs.Places.{answer_lands, save_full, save_done}
use Rattle.savelog.proofs.Use.{has_room}
use Rattle.put_bytes.proofs.PutLaws.{mapped_sound, mapped_kept}
use Rattle.put_bytes.specs.Puts.{core_in}
use Rattle.put_bytes.proofs.put_save.Goals as goal

pub returns-then-full : goal.returns-then-full
returns-then-full c = let P = c.requires in
    record {
      mapper = _;
      used = _;
      image = mapped_kept _ P.0.0 (λ k. (c.slice_known-1.given k).fits) refl c.used_at-used.ensures;
      saved = λ m p q e. save_full m p q (e ∙ sym c.used_at-used.ensures) _ _ _ _ (sym c.full.ensures ∙ c.if-full.true);
    }

pub store_answer-more-requires : goal.store_answer-more-requires
store_answer-more-requires c = let P = c.requires in (
  answer_lands _ _ _ _ c.ranges.value.fits (rw (c.registers_at-registers.ensures, ← c.mapper_at-mapper.ensures) at c.answer-stored.ensures) (rw (c.mapper_at-mapper.ensures, c.cartridge_at-cartridge.ensures) P.1.1.0),
  (has_room _ _ 1 (sym c.full.ensures ∙ c.if-full.false), P.1.1.1),
)

pub returns-then-keeps : goal.returns-then-keeps
returns-then-keeps c = let P = c.requires in
    record {
      mapper = _;
      used = _;
      image = c.put_used.ensures ∙ sym (mapping_kept _ (λ k. (c.slice_known-1.given k).fits) _ _ c.mapper_at-mapper.ensures (mapped_sound _ P.0.0));
      saved = λ m p q e. save_done m (p ∙ sym c.cartridge_at-cartridge.ensures) (q ∙ sym c.mapper_at-mapper.ensures) (e ∙ sym c.used_at-used.ensures) _ _ _ _
          (sym c.full.ensures ∙ c.if-full.false) (sym (c.keeps.ensures c.if-keeps.true _ _)) (rw (c.registers_at-registers.ensures, ← c.mapper_at-mapper.ensures) at c.answer-stored.ensures) c.store_answer-more.ensures;
    }

pub returns : goal.returns
returns c = let P = c.requires in
    let a = c.args in
    record {
      mapper = after (core_in a.image.now).cartridge (core_in a.image.now).mapper a.at a.value;
      used = c.store_answer-more.result;
      image = c.put_used-2.ensures ∙ rw c.put_mapper.ensures (used_over _ P.0.0.size _ _ _ (rw (← c.used_at-used.ensures) (omega (arith, c.used_at-used.type_inv))));
      saved = λ m p q e. save_done m (p ∙ sym c.cartridge_at-cartridge.ensures) (q ∙ sym c.mapper_at-mapper.ensures) (e ∙ sym c.used_at-used.ensures) _ _ _ _
          (sym c.full.ensures ∙ c.if-full.false) (rw (c.mapper_at-mapper.ensures, c.cartridge_at-cartridge.ensures)) (rw (c.registers_at-registers.ensures, ← c.mapper_at-mapper.ensures) at c.answer-stored.ensures) c.store_answer-more.ensures;
    }
