-- Pan Docs, "CGB Registers": FF51..FF55, of a byte write to the page on a colour machine.
use Rattle.std.specs.Prelude.{Bool, true, false, cond, List, [], ◌∷◌, ◌⊎◌, ◌≡◌, ℕ, ◌+◌, ◌-◌, ◌*◌, ◌<◌, ◌≤◌, eqb, ltb, length as len}
use Rattle.copies.specs.declared.Finish.TheVariants as finish
use Rattle.hdma.specs.Hdma.{starts, running, stopped}
use Rattle.hdma.specs.PanDocs.{length_of}
use Rattle.hdma.specs.declared.Hdma.{Hdma}
use Rattle.hdma.specs.declared.Start.TheVariants.{Set, Block, General}
use Rattle.hdma.specs.declared.Written.{Written}
use Rattle.memory.specs.declared.Memory.{Memory}
use Rattle.registers.specs.Page.{read_register, write_register}
use Rattle.registers.specs.Transfers.{finished, started_by}
use Rattle.pan_docs.specs.Bits.{bit, low}
use Rattle.pan_docs.specs.Ones.{Every}

-- "FF51, FF52: source, high and low, its low 4 bits ignored": bit j of the address from those of the high and of the low byte
abbrev pub source_bits : (ℕ → ℕ) → (ℕ → ℕ) → ℕ → ℕ
source_bits highs lows j = cond (ltb j 4) 0 (cond (ltb j 8) (lows j) (highs (j - 8)))

-- "FF53, FF54: destination in video memory; of the address only bits 12..4 count": video memory is 8000-9FFF, so bits 15..13 are 100
abbrev pub destination_bits : (ℕ → ℕ) → (ℕ → ℕ) → ℕ → ℕ
destination_bits highs lows j =
    cond (ltb j 4) 0 (cond (ltb j 8) (lows j) (cond (ltb j 13) (highs (j - 8)) (cond (eqb j 15) 1 0)))

-- the high byte of an address
abbrev pub high_byte : ℕ → ℕ → ℕ
high_byte a k = bit a (8 + k)

-- HDMA is on or off, a byte is stored in FF55, and the addresses stay
pub record Switched (h : Hdma) (w : Written) (on : Bool) (byte : ℕ) : Type 0 where
  pub is : w.hdma.on ≡ on
  pub shows : w.byte ≡ byte
  pub source : w.hdma.source ≡ h.source
  pub destination : w.hdma.destination ≡ h.destination

pub record TransferRegisters : Type 0 where
  -- departs: FF51 given 80..BF becomes 00 (document 01); Pan Docs have A000-DFF0 among the sources
  pub source_high_law : (m : Memory) (v : ℕ) → m.core.banks.colour ≡ true → (v < 0x80) ⊎ (0xC0 ≤ v)
      → (j : ℕ) → bit (write_register m 0x51 v).core.hdma.source j ≡ source_bits (bit v) (bit m.core.hdma.source) j
  pub source_low_law : (m : Memory) (v : ℕ) → m.core.banks.colour ≡ true
      → (j : ℕ) → bit (write_register m 0x52 v).core.hdma.source j ≡ source_bits (high_byte m.core.hdma.source) (bit v) j
  pub destination_high_law : (m : Memory) (v : ℕ) → m.core.banks.colour ≡ true
      → (j : ℕ) → bit (write_register m 0x53 v).core.hdma.destination j ≡ destination_bits (bit v) (bit m.core.hdma.destination) j
  pub destination_low_law : (m : Memory) (v : ℕ) → m.core.banks.colour ≡ true
      → (j : ℕ) → bit (write_register m 0x54 v).core.hdma.destination j ≡ destination_bits (high_byte m.core.hdma.destination) (bit v) j
  -- "FF55: length = (bits 6..0 + 1) x 16"
  pub length : (v : ℕ) → length_of v ≡ (low 7 v + 1) * 16
  -- "bit 7 at 0 copies all at once (general purpose)"
  pub general : (h : Hdma) (mode v : ℕ) → h.on ≡ false → bit v 7 ≡ 0 → starts h mode v ≡ General
  -- "a general transfer done reads FF"; document 01: FF51..FF54 too. (The page has 256 bytes, as its type says.)
  pub ends_so : (m : Memory) (v : ℕ) → (started_by m v General).copy.finish ≡ finish.General
  pub done : (m : Memory) (v : ℕ) (sound : List ℕ) → len m.page ≡ 256
      → Every (λ at. read_register (finished m finish.General v) sound at ≡ 0xFF) (0x55 ∷ 0x54 ∷ 0x53 ∷ 0x52 ∷ 0x51 ∷ [])
  -- "at 1 sixteen bytes at each HBlank": HDMA is on from now on; that a first block goes at once in mode 0 is the Rust's
  pub hblank : (h : Hdma) (mode v : ℕ) → h.on ≡ false → bit v 7 ≡ 1
      → starts h mode v ≡ cond (eqb mode 0) (Block (running h v)) (Set (running h v))
  pub still : (h : Hdma) (mode v : ℕ) → h.on ≡ true → bit v 7 ≡ 1 → starts h mode v ≡ Set (running h v)
  -- document 01: "bit 7 set stores the low 7 bits"
  pub running_on : (h : Hdma) (v : ℕ) → Switched h (running h v) true (low 7 v)
  -- "bit 7 at 0 written while an HBlank transfer runs stops it"; document 01: "bit 7 clear stores FF and stops"
  pub stops : (h : Hdma) (mode v : ℕ) → h.on ≡ true → bit v 7 ≡ 0 → starts h mode v ≡ Set (stopped h)
  pub stopped_off : (h : Hdma) → Switched h (stopped h) false 0xFF
