-- What is lent less is given, or changed, in the host's hands.
use mathlib.Core.List.{List}
use mathlib.Core.Path.{◌≡◌, refl, ap}
use Prim.Native.Nat.{ℕ}
use Rattle.dispatch.specs.Kinds.{Kind, Reading, Clearing, Other, state_kind}
use Rattle.dispatch.specs.declared.StateCall.{StateCall}
use Rattle.memory.specs.World.{Fixed}
use Rattle.entry.specs.EntryContracts.{holding, Changes}
use Rattle.entry.specs.Entries.{Held, asks, changes, on_state, entry}
use Rattle.entry.specs.Entry.{left}
use Rattle.entry.specs.LentLess.{AsEntry, LentLess}

module _ (x : Fixed) (i v w s l : List ℕ) where
  abbrev held : Held
  held = holding i v w s l

  by_kind : (c : StateCall) (n : ℕ) (j : List ℕ) → Changes i c n j → (k : Kind) → (k ≡ Reading → ⊥) → left n 0 j v w s l ≡ on_state k held c
  by_kind c n j e Reading h = absurd (h refl)
  by_kind c n j e Clearing h = ap (changes held) e
  by_kind c n j e Other h = ap (changes held) e

  as_entry : AsEntry x i v w s l
  unfolding entry
  as_entry =
      record {
        changes = λ c h n j e. by_kind c n j e (state_kind c) h;
        asks = λ c r n k e. rw r (ap (asks held) e);
        byte = λ index n k e. ap (asks held) e;
        word = λ index n k e. ap (asks held) e;
        vram = λ index bank n k e. ap (asks held) e;
      }

pub lent_less : LentLess
lent_less = as_entry
