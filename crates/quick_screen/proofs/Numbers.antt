-- One of the eight numbers put alone is the host's call with the other seven as they stand: one law, whichever number it is (`number_image`). The eight
-- read together, and the sprites: an image begins with OAM.
use mathlib.Core.Bool.{Bool, true, false}
use mathlib.Core.List.{List, [], ◌∷◌}
use mathlib.Core.Path.{◌≡◌, refl, sym, ap, ◌∙◌}
use Prim.Native.Nat.{ℕ, ◌<◌}
use native.Mathlib.Omega.{arith}
use lib.ListN.{length, take}
use lib.Seq.{paste, take_all, take-take, take-paste, length-paste, length-take-le}
use mir.Facts.{Fits-of_z}
use mir.Syntax.{w32}
use mir.Val.{SFits}
use borrow.Author.Tests.{ne_eqb}
use Rattle.dispatch.specs.Step.{state_step}
use Rattle.dispatch.specs.declared.StateCall.TheVariants as on
use Rattle.entry.specs.Entry.{changed}
use Rattle.entry.specs.Host.{shown_of, numbers_entry, with_number, set_entry, oam_entry}
use Rattle.entry.specs.declared.HostNumber.{HostNumber}
use Rattle.entry.specs.declared.HostNumber.TheVariants as one
use Rattle.image.proofs.LoadLaws.{state_read}
use Rattle.image.proofs.OpenLaws.{load_state, load_refused}
use Rattle.image.proofs.PatchLaws.{image_put}
use Rattle.image.specs.Layout.{bit, complement, field_values, image_of}
use Rattle.image.specs.Load.{stored, lcd_of, load_call}
use Rattle.image.specs.Patches.{fields, put, Fits}
use Rattle.image.specs.Load.{Loaded}
use Rattle.in_place.proofs.Images.{state, size, held, core}
use Rattle.in_place.specs.Held.{Held}
use Rattle.lcd.specs.declared.Lcd.{Lcd}
use Rattle.memory.specs.Start.{zeroed}
use Rattle.memory.specs.declared.Core.{Core}
use Rattle.memory.specs.declared.Memory.{Memory}
use Rattle.places.specs.Places.{set_all}
use Rattle.copies.specs.PanDocs.{oam_bytes}
use Rattle.registers.specs.State.{hosted}
use Rattle.entry.proofs.Held.{closed_state, state_done}

-- a number's field, and its value there
abbrev pub field_of : HostNumber → ℕ × ℕ
field_of (one.Disabled x) = (1, bit x)
field_of (one.Line x) = (9, x)
field_of (one.Signal x) = (10, x)
field_of (one.Mode x) = (11, x)
field_of (one.Delay x) = (16, complement x)
field_of (one.Counter x) = (17, complement x)
field_of (one.Aux x) = (18, complement x)
field_of (one.Window x) = (19, complement x)

-- what its type says
abbrev pub Typed : HostNumber → Type 0
Typed (one.Disabled x) = Unit {0}
Typed (one.Line x) = x < 256
Typed (one.Signal x) = x < 256
Typed (one.Mode x) = x < 256
Typed (one.Delay x) = SFits w32 x
Typed (one.Counter x) = SFits w32 x
Typed (one.Aux x) = SFits w32 x
Typed (one.Window x) = SFits w32 x

bit_fits : (b : Bool) → bit b < 2
bit_fits true = omega arith
bit_fits false = omega arith

number_fits : (n : HostNumber) → Typed n → Fits (field_of n ∷ [])
number_fits (one.Disabled x) t = (bit_fits x, omega arith)
number_fits (one.Line x) t = (t, omega arith)
number_fits (one.Signal x) t = (t, omega arith)
number_fits (one.Mode x) t = (t, omega arith)
number_fits (one.Delay x) t = ((Fits-of_z {w = w32} t).fits, omega arith)
number_fits (one.Counter x) t = ((Fits-of_z {w = w32} t).fits, omega arith)
number_fits (one.Aux x) t = ((Fits-of_z {w = w32} t).fits, omega arith)
number_fits (one.Window x) t = ((Fits-of_z {w = w32} t).fits, omega arith)

abbrev pub with_set : Memory → HostNumber → Memory
with_set m n = hosted m (with_number m.core.lcd n)

one_field : (m : Memory) (n : HostNumber) → set_all (field_of n ∷ []) (field_values m.core) ≡ field_values (with_set m n).core
one_field m (one.Disabled x) = refl
one_field m (one.Line x) = refl
one_field m (one.Signal x) = refl
one_field m (one.Mode x) = refl
one_field m (one.Delay x) = refl
one_field m (one.Counter x) = refl
one_field m (one.Aux x) = refl
one_field m (one.Window x) = refl

module _ (i : List ℕ) (h : Held i) where
  -- r is the number that the code was given, n what its case is
  pub number_image : {r : HostNumber} (n : HostNumber) → r ≡ n → Typed n → {j : List ℕ} → j ≡ put (field_of n ∷ []) i → j ≡ image_of (with_set (state i h) r)
  number_image n q t e =
      e ∙ ap (put (field_of n ∷ [])) (held i h).same
      ∙ image_put (state i h) (held i h).typed (held i h).storable (field_of n ∷ []) (number_fits n t) (with_set (state i h) n).core (one_field (state i h) n)
      ∙ ap (λ (x : HostNumber). image_of (with_set (state i h) x)) (sym q)

  pub set_done : (n : HostNumber) {j : List ℕ} → j ≡ image_of (with_set (state i h) n) → changed 0 j ≡ set_entry i n
  unfolding set_entry state_step
  set_done n g = state_done i h (on.Host (with_number (state i h).core.lcd n)) _ refl g

  pub numbers_given : {l : Lcd} → l ≡ lcd_of (fields i) → shown_of 0 l ≡ numbers_entry i
  numbers_given e = rw (e ∙ ap (λ (k : Core). k.lcd) (core i h), h.1)

  -- the sprites

  first_bytes : take oam_bytes (state i h).oam ≡ take oam_bytes i
  first_bytes =
      ap (λ (r : Loaded). take oam_bytes r.state.oam) (load_state i h.1)
      ∙ ap (λ (m : Memory). take oam_bytes m.oam) (state_read i (size i h) h.0)
      ∙ take-take oam_bytes 256 i (omega arith)

  pub oam_length : (l : List ℕ) → (length l ≡ oam_bytes → ⊥) → stored 4 l ≡ oam_entry i l
  unfolding oam_entry
  oam_length l g = rw (h.1, ne_eqb (length l) oam_bytes g)

  pub oam_given : (l : List ℕ) → length l ≡ oam_bytes → {j : List ℕ} → j ≡ paste l 0 (take oam_bytes i) (length (take oam_bytes i)) → stored 0 j ≡ oam_entry i l
  unfolding oam_entry
  oam_given l n {j} e =
      let s = size i h in
      let p = take oam_bytes i in
      let k : length p ≡ oam_bytes = length-take-le oam_bytes i (omega (arith, s)) in
      let f : j ≡ paste l 0 p oam_bytes = e ∙ ap (λ (x : ℕ). paste l 0 p x) k in
      let m : length j ≡ oam_bytes = ap length f ∙ length-paste l 0 p oam_bytes (omega (arith, n)) (omega (arith, k)) ∙ n in
      let g : j ≡ p =
      sym (take_all oam_bytes j (omega (arith, m))) ∙ ap (take oam_bytes) f ∙ take-paste l 0 p oam_bytes (omega (arith, n)) (omega (arith, k))
      ∙ take_all oam_bytes p (omega (arith, k)) in
      rw (h.1, n) (ap (stored 0) (g ∙ sym first_bytes))

module _ (i : List ℕ) {n : ℕ} (e : n ≡ (load_call i).number) (h : n ≡ 0 → ⊥) where
  pub closed_set : (x : HostNumber) → changed n i ≡ set_entry i x
  unfolding set_entry
  closed_set x = closed_state i e h _

  pub closed_oam : (l : List ℕ) → stored n l ≡ oam_entry i l
  unfolding oam_entry
  closed_oam l = rw (e, ne_eqb (load_call i).number 0 (λ k. h (e ∙ k)))

  pub closed_numbers : shown_of n zeroed.core.lcd ≡ numbers_entry i
  closed_numbers =
      ap (λ (x : ℕ). shown_of x zeroed.core.lcd) e ∙ ap (λ (d : Loaded). shown_of d.number d.state.core.lcd) (load_refused i (λ k. h (e ∙ k)))
