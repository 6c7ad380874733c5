-- What each entry of the C boundary is held to: the contracts of crate host cite these names and say nothing else. Of each, what is lent comes
-- first, then what is asked, then what the entry leaves: the number, the value, and every lent byte that it may write. No second outcome fits one
-- (specs/One.antt), and a refusal leaves what is lent (specs/Refused.antt).
use Rattle.std.specs.Prelude.{Bool, List, [], ◌≡◌, ℕ, ℤ}
use Rattle.dispatch.specs.Lent.{Lent, start}
use Rattle.dispatch.specs.declared.Call.{Call}
use Rattle.dispatch.specs.declared.Call.TheVariants.{ReadCgbLcdRam}
use Rattle.dispatch.specs.declared.StateCall.{StateCall}
use Rattle.image.specs.Load.{stored}
use Rattle.memory.specs.World.{Fixed, fixed}
use Rattle.savelog.specs.Convert.{converted, conversion}
pub use Rattle.savelog.specs.Log.{Recovers}
use Rattle.savelog.specs.declared.Form.{Form}
use Rattle.entry.specs.Entries.{Held, entry}
use Rattle.entry.specs.Entry.{
  changed,
  state_entry,
  given,
  ask_entry,
  used_entry,
  read_entry,
  left,
  fresh,
  fresh_entry,
  mapper_read_entry,
  mapped,
  mapper_write_entry,
}
use Rattle.entry.specs.Host.{shown, numbers_entry, set_entry, colors_entry, oam_entry, overflow_entry, block_entry, use_entry, version_number}
use Rattle.entry.specs.declared.HostNumber.{HostNumber}

-- The calls of the bus. With every memory lent: `entry` itself, which lists of entries fold (crate boundary)

abbrev pub holding : List ℕ → List ℕ → List ℕ → List ℕ → List ℕ → Held
holding i v w s l = record { image = i; vram = v; wram = w; save = s; log = l }

abbrev pub Enters : Fixed → Held → Call → ℕ → ℕ → Held → Type 0
Enters x h c number value after =
    left number value after.image after.vram after.wram after.save after.log ≡ entry x h c

-- With less: the image alone, changed or asked; what a read needs; video memory (specs/LentLess.antt: this too is `entry`)

abbrev pub Changes : List ℕ → StateCall → ℕ → List ℕ → Type 0
Changes i c number after = changed number after ≡ state_entry i c

abbrev pub Asks : List ℕ → StateCall → ℕ → ℕ → Type 0
Asks i c number value = given number value ≡ ask_entry i c

abbrev pub Reads : Fixed → List ℕ → List ℕ → List ℕ → List ℕ → Call → ℕ → ℕ → Type 0
Reads x i v w s c number value = given number value ≡ read_entry x i v w s c

abbrev pub ReadsVram : List ℕ → List ℕ → ℕ → ℕ → ℕ → ℕ → Type 0
ReadsVram i v index bank number value = Reads (fixed [] []) i v [] [] (ReadCgbLcdRam index bank) number value

-- A fresh bus, by what it is lent

abbrev pub lending : ℕ → ℕ → ℕ → Bool → List ℕ → List ℕ → List ℕ → List ℕ → List ℕ → List ℕ → Lent
lending kind banks code colour rom v w save log sound =
    record { kind = kind; banks = banks; code = code; colour = colour; rom = rom; vram = v; wram = w; image = save; log = log; sound = sound }

abbrev pub Begins : List ℕ → Lent → ℕ → List ℕ → List ℕ → List ℕ → Type 0
Begins i l number after v w = fresh number after v w ≡ fresh_entry i l.vram l.wram (start l)

-- A mapper's own two calls

abbrev pub MapperReads : List ℕ → List ℕ → List ℕ → ℕ → ℕ → ℕ → Type 0
MapperReads i rom save index number value = given number value ≡ mapper_read_entry i rom save index

abbrev pub MapperWrites : List ℕ → ℕ → ℕ → ℕ → ℕ → List ℕ → Type 0
MapperWrites i index byte number value after = mapped number value after ≡ mapper_write_entry i index byte

-- What fills lent bytes: the colours, the sprites, a block of reads

abbrev pub FillsColors : List ℕ → List ℕ → ℕ → List ℕ → Type 0
FillsColors i out number after = stored number after ≡ colors_entry i out

abbrev pub FillsOam : List ℕ → List ℕ → ℕ → List ℕ → Type 0
FillsOam i out number after = stored number after ≡ oam_entry i out

abbrev pub FillsBlock : Fixed → List ℕ → List ℕ → List ℕ → List ℕ → List ℕ → ℕ → ℕ → List ℕ → Type 0
FillsBlock x i v w s out index number after = stored number after ≡ block_entry x i v w s out index

-- The screen's eight numbers, and one of them set

abbrev pub Shows : List ℕ → ℕ → ℕ → ℕ → ℕ → ℕ → ℤ → ℤ → ℤ → ℤ → Type 0
Shows i number disabled line signal mode delay counter aux window =
    shown number disabled line signal mode delay counter aux window ≡ numbers_entry i

abbrev pub Sets : List ℕ → HostNumber → ℕ → List ℕ → Type 0
Sets i n number after = changed number after ≡ set_entry i n

-- The log's use, and that use set; the cycles until TIMA overflows

abbrev pub GivesUse : List ℕ → ℕ → ℕ → Type 0
GivesUse i number value = given number value ≡ used_entry i

abbrev pub SetsUse : List ℕ → ℕ → ℕ → List ℕ → Type 0
SetsUse i used number after = changed number after ≡ use_entry i used

abbrev pub GivesCycles : List ℕ → ℕ → ℕ → Type 0
GivesCycles i number value = given number value ≡ overflow_entry i

-- No image: recovery over a save (crate savelog, `Recovers`), a log converted from one form into bytes for another, the version

abbrev pub Converts : Form → Form → List ℕ → List ℕ → ℕ → ℕ → List ℕ → Type 0
Converts from to source target number value after = converted number value after ≡ conversion from to source target

abbrev pub IsVersion : ℕ → Type 0
IsVersion n = n ≡ version_number
