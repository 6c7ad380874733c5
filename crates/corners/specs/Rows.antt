-- What a row of the table says: how a bus is started, what is then called, and what must be seen. The calls are those of `step`, which crate `dispatch`
-- proves of the code; the start is `fresh_call`, which crate `bus` does.
use Rattle.std.specs.Prelude.{Bool, List, [], ◌∷◌, map, ◌≡◌, ℕ, zero, suc}
use Rattle.bus.specs.Fresh.{Begun, fresh_call}
use Rattle.dispatch.specs.Step.{step}
use Rattle.dispatch.specs.declared.Call.{Call}
use Rattle.dispatch.specs.declared.Call.TheVariants as call
use Rattle.dispatch.specs.declared.StateCall.TheVariants as on
use Rattle.mbc.specs.Mbc.{rom_len, ram_len, cartridge_of, start}
use Rattle.memory.specs.Ranges.{vram_len, wram_len, sound_len}
use Rattle.memory.specs.World.{World, world, Fixed, fixed}
use Rattle.numbers.specs.Numbers.{done}

-- What is lent holds any bytes: `rom 0x4000` is the ROM's byte at 4000, whatever it is. The log is of any bytes too, and of 4,095 (as in the bus walk).
pub record Lent : Type 0 where
  pub rom : ℕ → ℕ
  pub vram : ℕ → ℕ
  pub wram : ℕ → ℕ
  pub save : ℕ → ℕ
  pub log : ℕ → ℕ
  pub sound : ℕ → ℕ

-- n of these bytes, from an address on
unfoldable pub bytes : (ℕ → ℕ) → ℕ → ℕ → List ℕ
bytes f at zero = []
bytes f at (suc n) = let rest = bytes f (suc at) n in f at ∷ rest

abbrev pub log_len : ℕ
log_len = 4095

-- The cartridge: mapper (0 RomOnly, 1 Mbc1, 2 Mbc2, 3 Mbc5), N, RAM code; and the lengths that go with it
pub record Description : Type 0 where
  pub kind : ℕ
  pub banks : ℕ
  pub code : ℕ

abbrev pub rom_length : Description → ℕ
rom_length d = rom_len (cartridge_of d.banks d.code)

abbrev pub save_length : Description → ℕ
save_length d = ram_len (cartridge_of d.banks d.code) (start d.kind)

-- What the corners do
pub data Act : Type 0 where
  read : ℕ → Act
  write : ℕ → ℕ → Act
  cycle : ℕ → Act
  press : ℕ → Act
  poll : Act
  block : Act

unfoldable pub call_of : Act → Call
call_of (read i) = call.ReadByte i
call_of (write i v) = call.WriteByte i v
call_of (cycle n) = call.State (on.UpdateTimer n)
call_of (press b) = call.State (on.Press b)
call_of poll = call.State on.UpdateJoypad
call_of block = call.DoHdma

-- A line of a row: a call that must answer 0, done; one that must give this value besides; or what must then be found in the bus and its memories
pub data Line : Type 0 where
  does : Act → Line
  gives : Act → ℕ → Line
  shows : (World → List ℕ) → List ℕ → Line

-- The corner's number, the kinds of machine (colour or not), the cartridge, and the lines, each on what the one before left
pub record Row : Type 0 where
  pub corner : ℕ
  pub machines : List Bool
  pub cartridge : Description
  pub lines : List Line

-- what is seen, line by line
unfoldable pub seen : Fixed → World → List Line → List (List ℕ)
seen x w [] = []
seen x w (does a ∷ ls) = ((step x w (call_of a)).number ∷ []) ∷ seen x (step x w (call_of a)).after ls
seen x w (gives a v ∷ ls) =
    ((step x w (call_of a)).number ∷ (step x w (call_of a)).value ∷ []) ∷ seen x (step x w (call_of a)).after ls
seen x w (shows f l ∷ ls) = f w ∷ seen x w ls

-- and what is due
unfoldable pub due : List Line → List (List ℕ)
due [] = []
due (does a ∷ ls) = (done ∷ []) ∷ due ls
due (gives a v ∷ ls) = (done ∷ v ∷ []) ∷ due ls
due (shows f l ∷ ls) = l ∷ due ls

-- A row starts with the call for a fresh bus, which must be done
abbrev pub fresh_on : Lent → Description → Bool → Begun
fresh_on lent d colour =
    fresh_call d.kind d.banks d.code colour (rom_length d) (bytes lent.vram 0 (vram_len colour)) (bytes lent.wram 0 (wram_len colour))
    (save_length d) log_len sound_len

abbrev pub fixed_on : Lent → Description → Fixed
fixed_on lent d = fixed (bytes lent.rom 0 (rom_length d)) (bytes lent.sound 0 sound_len)

abbrev pub world_on : Lent → Description → Begun → World
world_on lent d b = world b.state b.vram b.wram (bytes lent.save 0 (save_length d)) (bytes lent.log 0 log_len)

unfoldable pub seen_on : Lent → Description → List Line → Bool → List (List ℕ)
seen_on lent d ls colour =
    ((fresh_on lent d colour).number ∷ []) ∷ seen (fixed_on lent d) (world_on lent d (fresh_on lent d colour)) ls

abbrev pub due_on : List Line → Bool → List (List ℕ)
due_on ls colour = (done ∷ []) ∷ due ls

-- on each kind of machine that the row names, what is seen is what is due
abbrev pub Holds : Lent → Row → Type 0
Holds lent r = map (seen_on lent r.cartridge r.lines) r.machines ≡ map (due_on r.lines) r.machines

-- every row of a table
infixr 5 ◌also◌
pub data Every (lent : Lent) : List Row → Type 0 where
  none : Every lent []
  ◌also◌ : {r : Row} {rs : List Row} → Holds lent r → Every lent rs → Every lent (r ∷ rs)
