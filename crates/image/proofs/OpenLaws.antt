-- What an image that is taken gives, for the callers of `open`: its length, its state's range, and where OAM and the page lie.
use mathlib.Core.Bool.{Bool, true, false, cond, ◌&&◌}
use mathlib.Core.Path.{◌≡◌, refl, ap, ◌∙◌}
use mathlib.Core.List.{List}
use Prim.Native.Nat.{ℕ, ◌+◌, ◌<◌}
use native.Mathlib.Omega.{arith}
use lib.Dec.{eqb}
use lib.ListN.{length, drop, get_or}
use lib.Seq.{get_or-take, get_or-drop}
use borrow.Author.Tests.{eqb-true}
use Rattle.rules.proofs.Tests.{both_true}
use Rattle.numbers.proofs.Passed.{refuses}
use Rattle.numbers.specs.Numbers.{done, out_of_range, wrong_length}
use Rattle.numbers.specs.Refusal.{refusal_number}
use Rattle.numbers.specs.declared.Refusal.{Refusal}
use Rattle.std.proofs.Common.{Err, Result}
use Rattle.memory.specs.declared.Core.{Core}
use Rattle.packing.specs.Packing.{Below}
use Rattle.savelog.specs.Log.{log_limit}
use Rattle.memory.specs.declared.Memory.{Memory}
use Rattle.memory.specs.Ranges.{in_range}
use Rattle.memory.specs.Start.{zeroed}
use Rattle.image.specs.Layout.{image_len, image_of}
use Rattle.image.specs.Load.{storable, sound, all_fields_in, values_of, state_of, Loaded, loaded, load_call, load_given, Opened, open_call, open_given}
use Rattle.image.proofs.LoadLaws.{state_read}
use Rattle.image.proofs.Round.{number_done, image_back}

abbrev given : Bool → Bool → Memory → Loaded
given a b m = cond a (cond b (loaded done m) (loaded out_of_range zeroed)) (loaded wrong_length zeroed)

given_zero : (a b : Bool) (m : Memory) → ((given a b m).number ≡ done → ⊥) → loaded (given a b m).number zeroed ≡ given a b m
given_zero true true m h = absurd (h refl)
given_zero true false m h = refl
given_zero false b m h = refl

module _ (l : List ℕ) where
  -- a refused load gives the all-zero state
  pub load_refused : ((load_call l).number ≡ done → ⊥) → loaded (load_call l).number zeroed ≡ load_call l
  unfolding load_call
  load_refused h = given_zero (eqb (length l) image_len) (sound (all_fields_in (values_of l)) && storable (state_of l)) (state_of l) h

  -- so does one whose number is a refusal's
  pub load_err : (e : Refusal) → refusal_number e ≡ (load_call l).number → load_given (Err e) ≡ load_call l
  load_err e h = ap (λ (k : ℕ). loaded k zeroed) h ∙ load_refused (λ z. let k = refuses e in absurd (omega (arith, k, h ∙ z)))

  module _ (h : (load_call l).number ≡ done) where
    tests : (eqb (length l) image_len ≡ true) × ((sound (all_fields_in (values_of l)) && storable (state_of l)) ≡ true)
    unfolding load_call
    tests = number_done (eqb (length l) image_len) (sound (all_fields_in (values_of l)) && storable (state_of l)) (state_of l) h

    pub load_length : length l ≡ image_len
    load_length = eqb-true (length l) image_len tests.0

    pub load_state : load_call l ≡ loaded done (state_of l)
    unfolding load_call
    load_state = rw (tests.0, tests.1)

    pub load_storable : storable (load_call l).state ≡ true
    load_storable =
        ap (λ (r : Loaded). storable r.state) load_state ∙ (both_true (sound (all_fields_in (values_of l))) (storable (state_of l)) tests.1).1

    module _ (below : Below 256 l) where
      pub load_range : in_range (load_call l).state log_limit ≡ true
      unfolding storable
      load_range = (image_back l below h).0

      pub load_image : image_of (load_call l).state ≡ l
      load_image = (image_back l below h).1

      pub load_oam : (i : ℕ) → i < 256 → get_or (load_call l).state.oam i 0 ≡ get_or l i 0
      load_oam i k =
          ap (λ (r : Loaded). get_or r.state.oam i 0) load_state
          ∙ ap (λ (m : Memory). get_or m.oam i 0) (state_read l load_length below)
          ∙ get_or-take 256 l i 0 k

      pub load_page : (i : ℕ) → i < 256 → get_or (load_call l).state.page i 0 ≡ get_or l (256 + i) 0
      load_page i k =
          ap (λ (r : Loaded). get_or r.state.page i 0) load_state
          ∙ ap (λ (m : Memory). get_or m.page i 0) (state_read l load_length below)
          ∙ get_or-take 256 (drop 256 l) i 0 k
          ∙ get_or-drop 256 l i 0

-- what `open` gave: its number, and what it took
module _ (l : List ℕ) (r : Result Core Refusal) (e : open_given r ≡ open_call l) where
  pub open_number : (open_given r).number ≡ (load_call l).number
  unfolding open_call
  open_number = ap (λ (a : Opened). a.number) e

  pub open_core : (open_given r).core ≡ (load_call l).state.core
  unfolding open_call
  open_core = ap (λ (a : Opened). a.core) e
