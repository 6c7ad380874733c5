-- FF4D, FF4F and FF70.
use mathlib.Core.Bool.{true, cond}
use mathlib.Core.Path.{◌≡◌, sym, ap, ◌∙◌}
use Prim.Native.Nat.{ℕ, ◌+◌, ◌*◌, ◌/◌, ◌%◌, ◌^◌}
use native.Mathlib.Omega.{arith}
use lib.Dec.{ltb, lit<}
use lib.ListN.{length}
use lib.Seq.{get_or-set_same}
use Rattle.mbc.specs.PanDocs.{zero_as_one}
use Rattle.memory.specs.declared.Memory.{Memory}
use Rattle.registers.specs.Colour.{speed_put, vram_bank_put, wram_bank_put}
use Rattle.registers.specs.Page.{write_register}
use Rattle.registers.specs.Register.{register_of}
use Rattle.registers.specs.State.{loaded}
use Rattle.rules.proofs.Tests.{cond_true}
use Rattle.selects.specs.PanDocs.{speed_of, wram_bank_of}
use Rattle.pan_docs.specs.Bits.{bit}
use Rattle.pan_docs.specs.Banks.{acts_as_one}
use Rattle.pan_docs.specs.Colour.{ColourRegisters}
use Rattle.pan_docs.proofs.Bits.{bit_zero, bit_left, bit_right, bit_shifted}
use Rattle.pan_docs.proofs.Banks.{few}

module _ (current v : ℕ) where
  speed_parts : speed_of current v ≡ current / 128 * 2 ^ 7 + (v % 2 + 126)
  speed_parts = omega arith

  speed_bit : bit (speed_of current v) 7 ≡ bit current 7
  speed_bit =
      ap (λ (x : ℕ). bit x 7) speed_parts ∙ bit_left (current / 128) 7 {r = v % 2 + 126} (omega arith) 7 (omega arith) ∙ bit_shifted current 7 0

  armed_bit : bit (speed_of current v) 0 ≡ bit v 0
  armed_bit =
      let e : (v % 2 + 126) % 2 ≡ v % 2 = omega arith in
      ap (λ (x : ℕ). bit x 0) speed_parts
      ∙ bit_right (current / 128) 7 {r = v % 2 + 126} (omega arith) 0 (omega arith)
      ∙ bit_zero (v % 2 + 126)
      ∙ e
      ∙ sym (bit_zero v)

module _ (m : Memory) (v : ℕ) (e : m.core.banks.colour ≡ true) where
  vram : (write_register m 0x4F v).core.banks.vram ≡ bit v 0
  unfolding register_of vram_bank_put
  vram = ap (λ (n : Memory). n.core.banks.vram) (cond_true m.core.banks.colour _ _ e) ∙ sym (bit_zero v)

  wram : (j : ℕ) → bit (write_register m 0x70 v).core.banks.wram j ≡ cond (ltb j 3) (acts_as_one 3 v j) 0
  unfolding register_of wram_bank_put wram_bank_of zero_as_one
  wram j = ap (λ (n : Memory). bit n.core.banks.wram j) (cond_true m.core.banks.colour _ _ e) ∙ few 3 v (lit< tt) j

  module _ (l : length m.page ≡ 256) where
    speed_stored : loaded (write_register m 0x4D v) 0x4D ≡ speed_of (loaded m 0x4D) v
    unfolding register_of speed_put
    speed_stored =
        ap (λ (n : Memory). loaded n 0x4D) (cond_true m.core.banks.colour _ _ e)
        ∙ get_or-set_same m.page 0x4D (speed_of (loaded m 0x4D) v) 0 (omega arith)

pub colour_registers : ColourRegisters
colour_registers =
    record {
      vram = vram;
      wram = wram;
      speed = λ m v e l. ap (λ (x : ℕ). bit x 7) (speed_stored m v e l) ∙ speed_bit (loaded m 0x4D) v;
      armed = λ m v e l. ap (λ (x : ℕ). bit x 0) (speed_stored m v e l) ∙ armed_bit (loaded m 0x4D) v;
    }
