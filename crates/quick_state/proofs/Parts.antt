-- The log's use, HDMA's flag and the cycles left: fields of the state that was loaded, and the image with the use put.
use mathlib.Core.Bool.{Bool, true, false, not}
use mathlib.Core.List.{List}
use mathlib.Core.Path.{◌≡◌, refl, ap, ◌∙◌}
use Prim.Native.Nat.{ℕ}
use lib.Dec.{eqb}
use borrow.Author.Tests.{ne_eqb, eqb-true, eqb-false}
use Rattle.dispatch.specs.Step.{state_step, flag_number}
use Rattle.dispatch.specs.declared.StateCall.TheVariants as on
use Rattle.entry.proofs.Entries.{unloaded_state}
use Rattle.entry.proofs.Laws.{used_storable}
use Rattle.entry.specs.Entry.{Changed, Given, changed, state_entry, given, ask_entry, used_entry}
use Rattle.entry.specs.Host.{overflow_entry, use_entry}
use Rattle.hdma.specs.declared.Hdma.{Hdma}
use Rattle.image.proofs.LoadedPatches.{loaded_used}
use Rattle.image.proofs.OpenLaws.{load_refused}
use Rattle.image.specs.Layout.{image_of, used_field}
use Rattle.image.specs.Load.{at, hdma_of, loaded, load_call}
use Rattle.image.specs.Patches.{fields, used_put}
use Rattle.image.specs.Load.{Loaded}
use Rattle.in_place.proofs.Images.{state, held, core}
use Rattle.in_place.specs.Held.{Held}
use Rattle.memory.specs.Start.{zeroed}
use Rattle.memory.specs.World.{with_used}
use Rattle.memory.specs.declared.Core.{Core}
use Rattle.packing.specs.Packing.{Below}
use Rattle.registers.specs.State.{timer_of}
use Rattle.rules.proofs.Tests.{by_cond, denied, granted}
use Rattle.savelog.specs.Log.{log_limit, use_in_range, cleared_use}
use Rattle.timer.specs.Overflow.{left_of}
use Rattle.entry.proofs.Held.{flag_asked, state_done}

-- an image that is refused: its state is the all-zero one
module _ (i : List ℕ) {n : ℕ} (e : n ≡ (load_call i).number) (h : n ≡ 0 → ⊥) where
  zero_state : loaded (load_call i).number zeroed ≡ load_call i
  zero_state = load_refused i (λ k. h (e ∙ k))

  pub closed_used : {r : Given} → r ≡ given n 0 → r ≡ used_entry i
  unfolding zeroed
  closed_used f = f ∙ ap (λ (x : ℕ). given x 0) e ∙ ap (λ (d : Loaded). given d.number d.state.core.used) zero_state

  pub closed_overflow : {r : Given} → r ≡ given n 0 → r ≡ overflow_entry i
  unfolding overflow_entry
  closed_overflow f = f ∙ rw (e, ne_eqb (load_call i).number 0 (λ k. h (e ∙ k)))

  pub closed_use : (u : ℕ) → changed n i ≡ use_entry i u
  unfolding use_entry
  closed_use u = rw (e, ne_eqb (load_call i).number 0 (λ k. h (e ∙ k)))

module _ (i : List ℕ) (h : Held i) where
  pub hdma_asked : {d : Hdma} → d ≡ hdma_of (fields i) → {r : Given} → r ≡ given 0 (flag_number d.on) → r ≡ ask_entry i on.IsHdmaEnabled
  unfolding state_step
  hdma_asked e f =
      flag_asked i h on.IsHdmaEnabled refl (ap (λ (d : Hdma). d.on) (e ∙ ap (λ (k : Core). k.hdma) (core i h))) f

  pub used_given : {v : ℕ} → v ≡ at (fields i) used_field → given 0 v ≡ used_entry i
  used_given e = rw (e ∙ ap (λ (k : Core). k.used) (core i h), h.1)

  pub overflow_given : {v : ℕ} → v ≡ left_of (timer_of (state i h)) → given 0 v ≡ overflow_entry i
  unfolding overflow_entry
  overflow_given e = rw h.1 (ap (given 0) e)

  -- the log's use set; to clear the log is to set it to 0
  pub use_set : (u : ℕ) {t : Bool} → t ≡ use_in_range u log_limit → not t ≡ false → {j : List ℕ} → j ≡ used_put i u → changed 0 j ≡ use_entry i u
  unfolding use_entry
  use_set u e k {j} f =
      let r : use_in_range u log_limit ≡ true = granted e k in
      rw (h.1, r) (ap (changed 0) (f ∙ loaded_used i h.0 h.1 u (used_storable (state i h) (held i h).storable u r)))

  pub use_refused : (u : ℕ) {t : Bool} → t ≡ use_in_range u log_limit → not t ≡ true → changed 3 i ≡ use_entry i u
  unfolding use_entry
  use_refused u e k = rw (h.1, denied e k)

  cleared : changed 0 (image_of (with_used (state i h) 0)) ≡ state_entry i on.ClearLog
  unfolding state_step
  cleared = state_done i h on.ClearLog _ refl refl

pub cleared_use_law : (i : List ℕ) → Below 256 i → {u : ℕ} → u ≡ cleared_use → use_entry i u ≡ state_entry i on.ClearLog
unfolding use_entry use_in_range
cleared_use_law i below e =
    rw e
    (by_cond (λ (r : Changed). r ≡ state_entry i on.ClearLog) (eqb (load_call i).number 0) _ _
    (λ t. cleared i (below, eqb-true (load_call i).number 0 t))
    (λ f. unloaded_state i {d = load_call i} refl (eqb-false (load_call i).number 0 f) on.ClearLog))
