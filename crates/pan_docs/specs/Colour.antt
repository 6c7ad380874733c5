-- Pan Docs, "CGB Registers": FF4D, FF4F and FF70, of a byte write to the page on a colour machine. (The page has 256 bytes, as its type says.)
use Rattle.std.specs.Prelude.{true, cond, ◌≡◌, ℕ, ltb, length}
use Rattle.memory.specs.declared.Memory.{Memory}
use Rattle.registers.specs.Page.{write_register}
use Rattle.registers.specs.State.{loaded}
use Rattle.pan_docs.specs.Bits.{bit}
use Rattle.pan_docs.specs.Banks.{acts_as_one}

pub record ColourRegisters : Type 0 where
  -- "FF4F: bit 0 selects the bank of video memory"
  pub vram : (m : Memory) (v : ℕ) → m.core.banks.colour ≡ true → (write_register m 0x4F v).core.banks.vram ≡ bit v 0
  -- "FF70: bits 2..0 select the bank of work memory at D000; 0 selects 1"
  pub wram : (m : Memory) (v : ℕ) → m.core.banks.colour ≡ true
      → (j : ℕ) → bit (write_register m 0x70 v).core.banks.wram j ≡ cond (ltb j 3) (acts_as_one 3 v j) 0
  -- "FF4D: bit 7 the speed (read-only), bit 0 armed"; that bits 6..1 are stored as 1 is the Rust's
  pub speed : (m : Memory) (v : ℕ) → m.core.banks.colour ≡ true → length m.page ≡ 256
      → bit (loaded (write_register m 0x4D v) 0x4D) 7 ≡ bit (loaded m 0x4D) 7
  pub armed : (m : Memory) (v : ℕ) → m.core.banks.colour ≡ true → length m.page ≡ 256
      → bit (loaded (write_register m 0x4D v) 0x4D) 0 ≡ bit v 0
