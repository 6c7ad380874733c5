-- A call on the state alone, made while nothing else was held, is the entry whatever else the host holds.
use mathlib.Core.List.{List, []}
use mathlib.Core.Path.{◌≡◌, ap}
use Prim.Native.Nat.{ℕ}
use Rattle.dispatch.specs.Kinds.{Kind, Reading, Clearing, Other, state_kind}
use Rattle.dispatch.specs.declared.Call.TheVariants.{State}
use Rattle.dispatch.specs.declared.StateCall.{StateCall}
use Rattle.entry.specs.EntryContracts.{holding, Enters}
use Rattle.entry.specs.Entries.{on_state, entry}
use Rattle.entry.specs.Entry.{Left, left}
use Rattle.memory.specs.World.{Fixed}

module _ (x y : Fixed) (i j v w s l : List ℕ) (c : StateCall) (n k : ℕ) where
  abbrev beside : Left → Left
  beside o = left o.number o.value o.image v w s l

  by_kind : (t : Kind) → left n k j [] [] [] [] ≡ on_state t (holding i [] [] [] []) c → left n k j v w s l ≡ on_state t (holding i v w s l) c
  by_kind Reading e = ap beside e
  by_kind Clearing e = ap beside e
  by_kind Other e = ap beside e

  pub elsewhere : Enters x (holding i [] [] [] []) (State c) n k (holding j [] [] [] [])
      → Enters y (holding i v w s l) (State c) n k (holding j v w s l)
  unfolding entry
  elsewhere e = by_kind (state_kind c) e
