-- "Image and state go round exactly" (document 01, "Save log and state image"): `laws_hold` has these as its contract.
use Rattle.std.specs.Prelude.{true, ◌≡◌, List, ℕ, Result, length}
use Rattle.std.specs.Int.{w32}
use Rattle.std.proofs.Common.{SFits}
use Rattle.packing.specs.Packing.{Below, Fit}
use Rattle.numbers.specs.Numbers.{done}
use Rattle.numbers.specs.One.{OnlyOne}
use Rattle.numbers.specs.Refusal.{number_given}
use Rattle.numbers.specs.declared.Refusal.{Refusal}
use Rattle.memory.specs.declared.Memory.{Memory}
use Rattle.image.specs.Layout.{image_len, field_widths, field_values, typed_fields, picked, image_of}
use Rattle.image.specs.Load.{storable, Stores, loaded, load_call}

-- what a `Memory` of the code has by its types: the ranges say the rest
pub record Typed (m : Memory) : Type 0 where
  pub oam : (length m.oam ≡ 256) × Below 256 m.oam
  pub page : (length m.page ≡ 256) × Below 256 m.page
  pub background : length m.background ≡ 32
  pub sprites : length m.sprites ≡ 32
  pub numbers : Fit (picked typed_fields field_widths) (picked typed_fields (field_values m.core))
  pub delay : SFits w32 m.core.lcd.delay
  pub counter : SFits w32 m.core.lcd.counter
  pub aux : SFits w32 m.core.lcd.aux
  pub window : SFits w32 m.core.lcd.window

-- A state in range has an image, and loading that gives the state back.
abbrev pub StateBack : Type 0
StateBack =
    (m : Memory) → Typed m → storable m ≡ true
    → (length (image_of m) ≡ image_len) × (Below 256 (image_of m) × (load_call (image_of m) ≡ loaded done m))

-- An image that is loaded is the image of what it gave, and that is in range: nothing else is accepted.
abbrev pub ImageBack : Type 0
ImageBack =
    (l : List ℕ) → Below 256 l → (load_call l).number ≡ done
    → (storable (load_call l).state ≡ true) × (image_of (load_call l).state ≡ l)

-- and it is what the types of a state say, so that the first law holds of it
abbrev pub ImageTyped : Type 0
ImageTyped = (l : List ℕ) → Below 256 l → (load_call l).number ≡ done → Typed (load_call l).state

-- of a store no second outcome fits
abbrev pub OneStore : Type 0
OneStore = (m : Memory) (l : List ℕ) → OnlyOne (Stores m l)

-- nor a second answer, as `encode` gives it
abbrev pub OneStored : Type 0
OneStored = (m : Memory) (l : List ℕ) → OnlyOne (λ (r : Result (Unit {0}) Refusal). Stores m l (number_given r))
