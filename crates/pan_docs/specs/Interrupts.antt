-- Pan Docs, "Interrupts": "FFFF enables, FF0F requests: bit 0 VBlank, 1 LCD, 2 Timer, 3 Serial, 4 Joypad. The lowest bit that is set in both is
-- served first."
use Rattle.std.specs.Prelude.{List, [], ◌∷◌, ◌≡◌, ℕ, ◌<◌, get_or}
use Rattle.interrupt.specs.Flags.{requested, removed}
use Rattle.interrupt.specs.PanDocs.{first_of}
use Rattle.interrupt.specs.declared.Interrupt.{Interrupt}
use Rattle.interrupt.specs.declared.Interrupt.TheVariants.{Vblank, Lcd, Timer, Serial, Joypad}
use Rattle.std.specs.Prelude.{Some, None}
use Rattle.pan_docs.specs.Bits.{bit}

-- by their bits
abbrev pub five : List Interrupt
five = Vblank ∷ Lcd ∷ Timer ∷ Serial ∷ Joypad ∷ []

abbrev pub interrupt_at : ℕ → Interrupt
interrupt_at k = get_or five k Vblank

-- bit k is set in both
abbrev pub Both : ℕ → ℕ → ℕ → Type 0
Both enable flags k = (bit enable k ≡ 1) × (bit flags k ≡ 1)

pub record InterruptBits : Type 0 where
  pub served : (enable flags k : ℕ) → k < 5 → Both enable flags k → ((i : ℕ) → i < k → Both enable flags i → ⊥)
      → first_of enable flags ≡ Some (interrupt_at k)
  pub none : (enable flags : ℕ) → ((i : ℕ) → i < 5 → Both enable flags i → ⊥) → first_of enable flags ≡ None
  -- a request sets the bit, a removal clears it; the other four stay
  pub requests : (flags k : ℕ) → k < 5 → bit (requested flags (interrupt_at k)) k ≡ 1
  pub removes : (flags k : ℕ) → k < 5 → bit (removed flags (interrupt_at k)) k ≡ 0
  pub requests_other : (flags k j : ℕ) → k < 5 → j < 5 → (j ≡ k → ⊥) → bit (requested flags (interrupt_at k)) j ≡ bit flags j
  pub removes_other : (flags k j : ℕ) → k < 5 → j < 5 → (j ≡ k → ⊥) → bit (removed flags (interrupt_at k)) j ≡ bit flags j
