-- A call on the state made on the image itself. Its number refuses an image that is not taken; the state of one that is taken is in range, so that the call is
-- refused by its own number alone; and where none is due, the image of the call's next state is the entry's (`state_done`, `own_done`).
use mathlib.Core.Bool.{Bool}
use mathlib.Core.List.{List}
use mathlib.Core.Path.{◌≡◌, refl, sym, ap, ◌∙◌}
use Prim.Native.Nat.{ℕ, ◌<◌}
use native.Mathlib.Omega.{arith}
use borrow.Author.Tests.{ne_eqb}
use Rattle.dispatch.specs.Step.{state_step, performed, performed_done, performed_flag, flag_number}
use Rattle.dispatch.specs.declared.StateCall.{StateCall}
use Rattle.image.proofs.OpenLaws.{load_range}
use Rattle.image.specs.Layout.{image_of}
use Rattle.image.specs.Load.{load_call}
use Rattle.in_place.proofs.Images.{state}
use Rattle.in_place.specs.Held.{Held}
use Rattle.memory.specs.declared.Memory.{Memory}
use Rattle.packing.specs.Packing.{Below}
use Rattle.numbers.proofs.Passed.{refuses}
use Rattle.numbers.specs.Refusal.{refusal_number}
use Rattle.numbers.specs.declared.Refusal.{Refusal}
use Rattle.refusals.specs.Answers as answer
use Rattle.refusals.specs.Refusal.{or_else, state_refused, refused_state}
use Rattle.entry.proofs.Entries.{unloaded_state, unloaded_ask, asked, refused_state_law, done_state}
use Rattle.entry.specs.Entry.{Given, changed, state_entry, given, ask_entry}

-- a refusal's number is not 0
pub due : (e : Refusal) → refusal_number e ≡ 0 → ⊥
due e z = let l : 1 < refusal_number e = refuses e in omega (arith, z, l)

-- the first of two refusals
pub first_due : {n a : ℕ} (b : ℕ) → (n ≡ 0 → ⊥) → n ≡ a → n ≡ or_else a b
unfolding or_else
first_due {n} b h e = rw (← e, ne_eqb n 0 h)

-- By the image's number

module _ (i : List ℕ) {n : ℕ} (e : n ≡ (load_call i).number) where
  pub taken : n ≡ 0 → Below 256 i → Held i
  taken z below = (below, sym e ∙ z)

  module _ (h : n ≡ 0 → ⊥) where
    pub closed_state : (c : StateCall) → changed n i ≡ state_entry i c
    closed_state c = rw e (unloaded_state i {d = load_call i} refl (λ k. h (e ∙ k)) c)

    pub closed_ask : (c : StateCall) {r : Given} → r ≡ given n 0 → r ≡ ask_entry i c
    closed_ask c f = f ∙ rw e (unloaded_ask i {d = load_call i} refl (λ k. h (e ∙ k)) c)

module _ (i : List ℕ) (h : Held i) where
  pub passes : refused_state (state i h) ≡ 0
  unfolding state_refused
  passes = rw (load_range i h.1 h.0)

  module _ (c : StateCall) where
    -- A call that the state alone could refuse

    pub state_done : (m : Memory) → performed_done (answer.changed (refused_state (state i h)) (state i h) m) ≡ state_step (state i h) c
        → {j : List ℕ} → j ≡ image_of m → changed 0 j ≡ state_entry i c
    unfolding answer.changed
    state_done m s g = done_state i {d = load_call i} refl h.1 c {p = performed 0 0 m} (rw (← s, passes)) (omega arith) g

    pub flag_asked : {b : Bool} → performed_flag (state i h) (answer.flag_given (refused_state (state i h)) b) ≡ state_step (state i h) c
        → {a : Bool} → a ≡ b → {r : Given} → r ≡ given 0 (flag_number a) → r ≡ ask_entry i c
    unfolding answer.flag_given
    flag_asked {b} s e f =
        f ∙ ap (λ (x : Bool). given 0 (flag_number x)) e
        ∙ asked i {d = load_call i} refl h.1 c {p = performed 0 (flag_number b) (state i h)} (rw (← s, passes))

    -- One that has a number of its own

    module _ {n : ℕ} (m : Memory) (s : performed_done (answer.changed (or_else (refused_state (state i h)) n) (state i h) m) ≡ state_step (state i h) c) {k : ℕ} (e : k ≡ n) where
      pub own_refused : 1 < k → changed k i ≡ state_entry i c
      unfolding answer.changed or_else
      own_refused l =
          refused_state_law i {d = load_call i} refl h.1 c {p = performed k 0 (state i h)}
          (rw (← s, passes, ← e, ne_eqb k 0 (λ z. omega (arith, z, l)))) l

      pub own_done : k ≡ 0 → {j : List ℕ} → j ≡ image_of m → changed 0 j ≡ state_entry i c
      unfolding answer.changed or_else
      own_done z g =
          done_state i {d = load_call i} refl h.1 c {p = performed 0 0 m} (rw (← s, passes, ← e, z)) (omega arith) g
