-- Every call leaves bytes: in the state by proofs/Fine.antt, in the memories as a write does (crate put_bytes, proofs/Whole.antt).
use Rattle.bus.specs.Calls.{Outcome}
use Rattle.dispatch.proofs.Numbered.{by_unless}
use Rattle.dispatch.specs.Step.{step}
use Rattle.dispatch.specs.declared.Call.{Call}
use Rattle.dispatch.specs.declared.Call.TheVariants as call
use Rattle.memory.specs.World.{World, Fixed}
use Rattle.mmu.specs.Write.{write_at}
use Rattle.packing.specs.Packing.{Below}
use Rattle.put_bytes.proofs.Whole.{Whole, after_whole, write_whole, word_whole}
use Rattle.copies.specs.Copies.{oam_copy}
use Rattle.registers.specs.Transfers.{block_copy}
use Rattle.boundary.specs.Types.{CallTyped}
use Rattle.boundary.proofs.Fine.{state_fine}

module _ (x : Fixed) (rom : Below 256 x.rom) (sound : Below 256 x.sound) where
  pub step_whole : (w : World) → Whole w → (c : Call) → CallTyped c → Whole (step x w c).after
  unfolding step
  step_whole w g (call.ReadByte i) t = g
  step_whole w g (call.ReadWord i) t = g
  step_whole w g (call.ReadCgbLcdRam i bank) t = g
  step_whole w g (call.WriteByte i v) t =
      by_unless (λ (o : Outcome). Whole o.after) _ w _ (λ z. write_whole x rom sound 2 w g i v t) (λ h. g)
  step_whole w g (call.WriteWord i v) t =
      by_unless (λ (o : Outcome). Whole o.after) _ w _ (λ z. word_whole x rom sound w g i v t) (λ h. g)
  step_whole w g (call.DoDmaTransfer page) t =
      by_unless (λ (o : Outcome). Whole o.after) _ w _ (λ z. after_whole x rom sound (write_at x 1) (write_whole x rom sound 1) (oam_copy page) 0 w g) (λ h. g)
  step_whole w g call.DoHdma t =
      by_unless (λ (o : Outcome). Whole o.after) _ w _ (λ z. after_whole x rom sound (write_at x 1) (write_whole x rom sound 1) (block_copy w.state) 0 w g) (λ h. g)
  step_whole w g (call.State c) t =
      record { state = state_fine g.state c t; vram = g.vram; wram = g.wram; save = g.save }
