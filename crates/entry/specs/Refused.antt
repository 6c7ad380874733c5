-- Demand 1 at the C boundary: "A refused read gives 0; a refused call alters no state and no lent byte". For any bytes in image and memories, of
-- each contract that crate host cites (specs/EntryContracts.antt): where the number is a refusal, what is lent is as it was and the value is 0. (The
-- version is never refused.)
use Rattle.std.specs.Prelude.{true, List, ◌≡◌, ℕ, ℤ, pos}
use Rattle.dispatch.specs.Kinds.{refused}
use Rattle.dispatch.specs.Lent.{Lent}
use Rattle.dispatch.specs.declared.Call.{Call}
use Rattle.dispatch.specs.declared.StateCall.{StateCall}
use Rattle.memory.specs.World.{Fixed}
use Rattle.savelog.specs.declared.Form.{Form}
use Rattle.entry.specs.EntryContracts.{
  Enters,
  Changes,
  Asks,
  Reads,
  ReadsVram,
  Begins,
  MapperReads,
  MapperWrites,
  FillsColors,
  FillsOam,
  FillsBlock,
  Shows,
  Sets,
  GivesUse,
  SetsUse,
  GivesCycles,
  Recovers,
  Converts,
}
use Rattle.entry.specs.Entries.{Held}
use Rattle.entry.specs.declared.HostNumber.{HostNumber}

-- refused, a contract leaves 0; these bytes; both; 0 and all that a host holds

abbrev pub Zero : (ℕ → ℕ → Type 0) → Type 0
Zero P = (n v : ℕ) → P n v → refused n ≡ true → v ≡ 0

abbrev pub Stays : List ℕ → (ℕ → List ℕ → Type 0) → Type 0
Stays b P = (n : ℕ) (a : List ℕ) → P n a → refused n ≡ true → a ≡ b

abbrev pub ZeroStays : List ℕ → (ℕ → ℕ → List ℕ → Type 0) → Type 0
ZeroStays b P = (n v : ℕ) (a : List ℕ) → P n v a → refused n ≡ true → (v ≡ 0) × (a ≡ b)

abbrev pub HeldStays : Held → (ℕ → ℕ → Held → Type 0) → Type 0
HeldStays h P = (n v : ℕ) (a : Held) → P n v a → refused n ≡ true → (v ≡ 0) × (a ≡ h)

abbrev pub BegunStays : List ℕ → Lent → (ℕ → List ℕ → List ℕ → List ℕ → Type 0) → Type 0
BegunStays i l P =
    (n : ℕ) (a v w : List ℕ) → P n a v w → refused n ≡ true → (a ≡ i) × (v ≡ l.vram) × (w ≡ l.wram)

abbrev pub ZeroShown : (ℕ → ℕ → ℕ → ℕ → ℕ → ℤ → ℤ → ℤ → ℤ → Type 0) → Type 0
ZeroShown P =
    (n d l s m : ℕ) (y c a w : ℤ) → P n d l s m y c a w → refused n ≡ true
    → (d ≡ 0) × (l ≡ 0) × (s ≡ 0) × (m ≡ 0) × (y ≡ pos 0) × (c ≡ pos 0) × (a ≡ pos 0) × (w ≡ pos 0)

pub record RefusedEntry : Type 0 where
  pub enters : (x : Fixed) (h : Held) (c : Call) → HeldStays h (Enters x h c)
  pub changes : (i : List ℕ) (c : StateCall) → Stays i (Changes i c)
  pub asks : (i : List ℕ) (c : StateCall) → Zero (Asks i c)
  pub reads : (x : Fixed) (i v w s : List ℕ) (c : Call) → Zero (Reads x i v w s c)
  pub reads_vram : (i v : List ℕ) (index bank : ℕ) → Zero (ReadsVram i v index bank)
  pub begins : (i : List ℕ) (l : Lent) → BegunStays i l (Begins i l)
  pub mapper_reads : (i rom save : List ℕ) (index : ℕ) → Zero (MapperReads i rom save index)
  pub mapper_writes : (i : List ℕ) (index byte : ℕ) → ZeroStays i (MapperWrites i index byte)
  pub fills_colors : (i out : List ℕ) → Stays out (FillsColors i out)
  pub fills_oam : (i out : List ℕ) → Stays out (FillsOam i out)
  pub fills_block : (x : Fixed) (i v w s out : List ℕ) (index : ℕ) → Stays out (FillsBlock x i v w s out index)
  pub shows : (i : List ℕ) → ZeroShown (Shows i)
  pub sets : (i : List ℕ) (n : HostNumber) → Stays i (Sets i n)
  pub gives_use : (i : List ℕ) → Zero (GivesUse i)
  pub sets_use : (i : List ℕ) (used : ℕ) → Stays i (SetsUse i used)
  pub gives_cycles : (i : List ℕ) → Zero (GivesCycles i)
  pub recovers : (save log : List ℕ) → Stays save (Recovers save log)
  pub converts : (from to : Form) (source target : List ℕ) → ZeroStays target (Converts from to source target)
