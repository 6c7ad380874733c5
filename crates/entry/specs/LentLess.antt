-- A call that is lent less than all is still the entry that lists of entries fold: on whatever other memories the host holds (specs/EntryContracts.antt).
use Rattle.std.specs.Prelude.{List, ◌≡◌, ℕ}
use Rattle.dispatch.specs.Kinds.{Reading, state_kind}
use Rattle.dispatch.specs.declared.Call.TheVariants.{ReadByte, ReadWord, ReadCgbLcdRam, State}
use Rattle.dispatch.specs.declared.StateCall.{StateCall}
use Rattle.memory.specs.World.{Fixed}
use Rattle.entry.specs.EntryContracts.{holding, Enters, Changes, Asks, Reads, ReadsVram}

pub record AsEntry (x : Fixed) (i v w s l : List ℕ) : Type 0 where
  pub changes : (c : StateCall) → (state_kind c ≡ Reading → ⊥) → (n : ℕ) (j : List ℕ) → Changes i c n j
      → Enters x (holding i v w s l) (State c) n 0 (holding j v w s l)
  pub asks : (c : StateCall) → state_kind c ≡ Reading → (n k : ℕ) → Asks i c n k
      → Enters x (holding i v w s l) (State c) n k (holding i v w s l)
  pub byte : (index n k : ℕ) → Reads x i v w s (ReadByte index) n k → Enters x (holding i v w s l) (ReadByte index) n k (holding i v w s l)
  pub word : (index n k : ℕ) → Reads x i v w s (ReadWord index) n k → Enters x (holding i v w s l) (ReadWord index) n k (holding i v w s l)
  pub vram : (index bank n k : ℕ) → ReadsVram i v index bank n k
      → Enters x (holding i v w s l) (ReadCgbLcdRam index bank) n k (holding i v w s l)

abbrev pub LentLess : Type 0
LentLess = (x : Fixed) (i v w s l : List ℕ) → AsEntry x i v w s l
