-- Document 01, "How much a contract must say": no second outcome fits. Two results, with what is lent as it is left, that both meet the contract of
-- an entry on the same inputs are the same: of each contract that crate host cites (specs/EntryContracts.antt).
use Rattle.std.specs.Prelude.{List, ◌≡◌, ℕ, ℤ}
use Rattle.dispatch.specs.Lent.{Lent}
use Rattle.dispatch.specs.declared.Call.{Call}
use Rattle.dispatch.specs.declared.StateCall.{StateCall}
use Rattle.memory.specs.World.{Fixed}
use Rattle.numbers.specs.One.{OnlyOne}
use Rattle.savelog.specs.declared.Form.{Form}
use Rattle.entry.specs.EntryContracts.{
  Enters,
  Changes,
  Asks,
  Reads,
  ReadsVram,
  Begins,
  MapperReads,
  MapperWrites,
  FillsColors,
  FillsOam,
  FillsBlock,
  Shows,
  Sets,
  GivesUse,
  SetsUse,
  GivesCycles,
  Recovers,
  Converts,
  IsVersion,
}
use Rattle.entry.specs.Entries.{Held}
use Rattle.entry.specs.declared.HostNumber.{HostNumber}

-- a contract that one outcome fits: of a number and a value, or a number and bytes, it is `OnlyOne` (crate numbers); of a number, a value, and bytes or all that
-- a host holds

abbrev pub OneBoth : {B : Type 0} → (ℕ → ℕ → B → Type 0) → Type 0
OneBoth {B} P = (m n v w : ℕ) (a b : B) → P m v a → P n w b → (m ≡ n) × (v ≡ w) × (a ≡ b)

abbrev pub OneBegun : (ℕ → List ℕ → List ℕ → List ℕ → Type 0) → Type 0
OneBegun P =
    (m n : ℕ) (i v w i' v' w' : List ℕ) → P m i v w → P n i' v' w' → (m ≡ n) × (i ≡ i') × (v ≡ v') × (w ≡ w')

abbrev pub OneShown : (ℕ → ℕ → ℕ → ℕ → ℕ → ℤ → ℤ → ℤ → ℤ → Type 0) → Type 0
OneShown P =
    (n d l s m n' d' l' s' m' : ℕ) (y c a w y' c' a' w' : ℤ) → P n d l s m y c a w → P n' d' l' s' m' y' c' a' w'
    → (n ≡ n') × (d ≡ d') × (l ≡ l') × (s ≡ s') × (m ≡ m') × (y ≡ y') × (c ≡ c') × (a ≡ a') × (w ≡ w')

pub record OneEntry : Type 0 where
  pub enters : (x : Fixed) (h : Held) (c : Call) → OneBoth (Enters x h c)
  pub changes : (i : List ℕ) (c : StateCall) → OnlyOne (Changes i c)
  pub asks : (i : List ℕ) (c : StateCall) → OnlyOne (Asks i c)
  pub reads : (x : Fixed) (i v w s : List ℕ) (c : Call) → OnlyOne (Reads x i v w s c)
  pub reads_vram : (i v : List ℕ) (index bank : ℕ) → OnlyOne (ReadsVram i v index bank)
  pub begins : (i : List ℕ) (l : Lent) → OneBegun (Begins i l)
  pub mapper_reads : (i rom save : List ℕ) (index : ℕ) → OnlyOne (MapperReads i rom save index)
  pub mapper_writes : (i : List ℕ) (index byte : ℕ) → OneBoth (MapperWrites i index byte)
  pub fills_colors : (i out : List ℕ) → OnlyOne (FillsColors i out)
  pub fills_oam : (i out : List ℕ) → OnlyOne (FillsOam i out)
  pub fills_block : (x : Fixed) (i v w s out : List ℕ) (index : ℕ) → OnlyOne (FillsBlock x i v w s out index)
  pub shows : (i : List ℕ) → OneShown (Shows i)
  pub sets : (i : List ℕ) (n : HostNumber) → OnlyOne (Sets i n)
  pub gives_use : (i : List ℕ) → OnlyOne (GivesUse i)
  pub sets_use : (i : List ℕ) (used : ℕ) → OnlyOne (SetsUse i used)
  pub gives_cycles : (i : List ℕ) → OnlyOne (GivesCycles i)
  pub recovers : (save log : List ℕ) → OnlyOne (Recovers save log)
  pub converts : (from to : Form) (source target : List ℕ) → OneBoth (Converts from to source target)
  pub version : (m n : ℕ) → IsVersion m → IsVersion n → m ≡ n
