-- Bits that read 1, whatever is stored.
use Rattle.std.specs.Prelude.{true, false, cond, List, [], ◌∷◌, ◌≡◌, ℕ, ◌<◌}
use Rattle.mbc.specs.Mbc.{one_of}
use Rattle.memory.specs.declared.Memory.{Memory}
use Rattle.registers.specs.Page.{read_register}
use Rattle.registers.specs.State.{loaded}
use Rattle.pan_docs.specs.Bits.{bit}

-- FF00 + at, and its bits that read 1
pub record Ones : Type 0 where
  pub at : ℕ
  pub bits : List ℕ

abbrev pub ones : ℕ → List ℕ → Ones
ones at bits = record { at = at; bits = bits }

abbrev pub all_eight : List ℕ
all_eight = 7 ∷ 6 ∷ 5 ∷ 4 ∷ 3 ∷ 2 ∷ 1 ∷ 0 ∷ []

-- Pan Docs, "Interrupts": "FF0F's upper three bits read 1"; "LCD Status Registers", of FF41: "bit 7 reads 1"; "CGB Registers", of FF4F:
-- "bits 7..1 read 1", by document 01 on a monochrome machine too. Document 01 alone ("Reads with bits forced"): "FF07 F8";
-- "FF03, FF0E, FF4C give FF"
abbrev pub always_ones : List Ones
always_ones =
    ones 0x0F (7 ∷ 6 ∷ 5 ∷ [])
    ∷ ones 0x41 (7 ∷ [])
    ∷ ones 0x4F (7 ∷ 6 ∷ 5 ∷ 4 ∷ 3 ∷ 2 ∷ 1 ∷ [])
    ∷ ones 0x07 (7 ∷ 6 ∷ 5 ∷ 4 ∷ 3 ∷ [])
    ∷ ones 0x03 all_eight
    ∷ ones 0x0E all_eight
    ∷ ones 0x4C all_eight
    ∷ []

-- document 01 alone: "Colour: FF68 and FF6A OR 40, FF69 and FF6B OR F8, FF70 OR 40"
abbrev pub colour_ones : List Ones
colour_ones =
    ones 0x68 (6 ∷ [])
    ∷ ones 0x6A (6 ∷ [])
    ∷ ones 0x69 (7 ∷ 6 ∷ 5 ∷ 4 ∷ 3 ∷ [])
    ∷ ones 0x6B (7 ∷ 6 ∷ 5 ∷ 4 ∷ 3 ∷ [])
    ∷ ones 0x70 (6 ∷ [])
    ∷ []

-- "Monochrome: C0, FF, FF, FF in that order": these give FF (FF68 and FF6A C0)
abbrev pub monochrome_ones : List Ones
monochrome_ones =
    ones 0x69 all_eight ∷ ones 0x6B all_eight ∷ ones 0x70 all_eight ∷ ones 0x76 all_eight ∷ ones 0x77 all_eight ∷ []

abbrev pub Every : {A : Type 0} → (A → Type 0) → List A → Type 0
Every P [] = Unit
Every P (x ∷ xs) = P x × Every P xs

-- bit k of what is read: 1 where the row names it, else bit k of the stored byte
abbrev pub ReadsSo : Memory → List ℕ → Ones → Type 0
ReadsSo m sound r =
    (k : ℕ) → k < 8 → bit (read_register m sound r.at) k ≡ cond (one_of r.bits k) 1 (bit (loaded m r.at) k)

pub record BitsThatReadOne : Type 0 where
  pub always : (m : Memory) (sound : List ℕ) → Every (ReadsSo m sound) always_ones
  pub colour : (m : Memory) (sound : List ℕ) → m.core.banks.colour ≡ true → Every (ReadsSo m sound) colour_ones
  pub monochrome : (m : Memory) (sound : List ℕ) → m.core.banks.colour ≡ false → Every (ReadsSo m sound) monochrome_ones
  -- what reads one byte, whatever is stored: "FF76 and FF77 0" in colour, FF68 and FF6A "C0" in monochrome
  pub zero : (m : Memory) (sound : List ℕ) → m.core.banks.colour ≡ true
      → (read_register m sound 0x76 ≡ 0x00) × (read_register m sound 0x77 ≡ 0x00)
  pub two_ones : (m : Memory) (sound : List ℕ) → m.core.banks.colour ≡ false
      → (read_register m sound 0x68 ≡ 0xC0) × (read_register m sound 0x6A ≡ 0xC0)
