-- The laws of copy and write by cases.
use Rattle.std.proofs.Common.{sym, ◌∙◌, subst, arith}
use Rattle.mmu.specs.Access.{Ready}
use Rattle.mmu.proofs.Laws.{write_ready, copy_none, copy_more}
use Rattle.mmu.proofs.Laws.{starting_depth, starting_index, start_ready, write_alone, write_transfer}
use Rattle.mmu.proofs.+do_dma_transfer_write_byte.Goals as goal

pub do_dma_transfer-loop-i-init : goal.do_dma_transfer-loop-i-init
do_dma_transfer-loop-i-init t c = record { copied = sym (copy_none _ _ _ _ _); ready = c.requires.0 }

pub do_dma_transfer-loop-i-preserved : goal.do_dma_transfer-loop-i-preserved
do_dma_transfer-loop-i-preserved t c =
    let W = c.write_byte-next.ensures in
    let L = c.loop-i.invariant in
    record {
      copied = rw c.read_byte-byte.ensures at W ∙ copy_more _ _ _ _ _ _ _ L.copied;
      ready = subst (Ready _) (sym W) (write_ready _ _ _ L.ready _ _);
    }

pub write_byte-returns-then-not-starting : goal.write_byte-returns-then-not-starting
write_byte-returns-then-not-starting t c =
    c.put_byte.ensures ∙ sym (write_alone _ _ _ _ _ (sym c.starting.ensures ∙ c.if-not-starting.true))

pub write_byte-start_transfer-started-requires : goal.write_byte-start_transfer-started-requires
write_byte-start_transfer-started-requires t c = starting_index _ _ (sym c.starting.ensures ∙ c.if-not-starting.false)

pub write_byte-overflow_sub-depth : goal.write_byte-overflow_sub-depth
write_byte-overflow_sub-depth t c = omega (arith, starting_depth _ _ (sym c.starting.ensures ∙ c.if-not-starting.false))

pub write_byte-do_dma_transfer-requires : goal.write_byte-do_dma_transfer-requires
write_byte-do_dma_transfer-requires t c =
    let s = sym c.starting.ensures ∙ c.if-not-starting.false in
    let m = c.start_transfer-started.ensures in
    (omega (arith, c.decreases, starting_depth _ _ s), (start_ready _ _ _ _ _ c.requires s m.0.0, m.1))

pub write_byte-returns : goal.write_byte-returns
write_byte-returns t c =
    let m = c.start_transfer-started.ensures in
    write_transfer _ _ _ _ _ (sym c.starting.ensures ∙ c.if-not-starting.false) m.0.0 m.0.1 c.do_dma_transfer.ensures
