-- When a call is refused, and by which number (document 01, "Numbers a call gives back"; the order 3, 4, 5, 7, 6, 2).
use Rattle.std.specs.Prelude.{ℕ, ◌+◌, ◌%◌, Bool, true, false, cond, ◌&&◌, ◌||◌, List, length, ◌==◌, nat_le, nat_lt}
use Rattle.mbc.specs.Mbc.{rom_len, ram_len}
use Rattle.mbc.specs.declared.cartridge.Cartridge.{Cartridge}
use Rattle.mbc.specs.declared.mbc.Mapper.{Mapper}
use Rattle.memory.specs.Ranges.{in_range, vram_len, wram_len, sound_len}
use Rattle.memory.specs.Region.{vram_start, save_start, page_start, region_of}
use Rattle.memory.specs.World.{World, Fixed}
use Rattle.memory.specs.declared.Core.{Core}
use Rattle.memory.specs.declared.Memory.{Memory}
use Rattle.memory.specs.declared.region.Region.{Region}
use Rattle.memory.specs.declared.region.Region.TheVariants.{Rom, Vram, Save, Wram, Oam, Page}
use Rattle.numbers.specs.Numbers.{done, owed, no_room, out_of_range, wrong_length, too_many_cycles, outside}
use Rattle.refusals.specs.declared.Lengths.{Lengths}
use Rattle.savelog.specs.Log.{log_limit, full, use_in_range}

-- the first refusal of two that is due; 0 where none is
unfoldable pub or_else : ℕ → ℕ → ℕ
or_else n next = cond (n == done) next n

-- 3: the state is out of range; the log use is within the lent log, or within the longest where none is lent
unfoldable pub state_refused : Memory → ℕ → ℕ
state_refused m limit = cond (in_range m limit) done out_of_range

-- 3 where no log is lent
abbrev pub refused_state : Memory → ℕ
refused_state m = state_refused m log_limit

-- 3 by the log's use alone, where all else is known to be in range
unfoldable pub use_refused : ℕ → ℕ → ℕ
use_refused used log = cond (use_in_range used log) done out_of_range

-- the lengths of what is lent, but for the log
abbrev pub lengths_of : List ℕ → List ℕ → List ℕ → List ℕ → List ℕ → Lengths
lengths_of rom vram wram save sound =
    record { rom = length rom; vram = length vram; wram = length wram; save = length save; sound = length sound }

-- 4: a lent length other than the state asks for, by the machine's kind, the cartridge and its mapper
abbrev pub lengths_are : Bool → Cartridge → Mapper → ℕ → ℕ → ℕ → ℕ → ℕ → Bool
lengths_are colour cartridge mapper rom vram wram save sound =
    (rom == rom_len cartridge)
    && (vram == vram_len colour && (wram == wram_len colour && (save == ram_len cartridge mapper && sound == sound_len)))

unfoldable pub lengths_fit : Core → ℕ → ℕ → ℕ → ℕ → ℕ → Bool
lengths_fit c rom vram wram save sound = lengths_are c.banks.colour c.cartridge c.mapper rom vram wram save sound

unfoldable pub lengths_refused : Core → ℕ → ℕ → ℕ → ℕ → ℕ → ℕ
lengths_refused c rom vram wram save sound = cond (lengths_fit c rom vram wram save sound) done wrong_length

-- a call that reads the lent memories
unfoldable pub read_refused : Memory → ℕ → ℕ → ℕ → ℕ → ℕ → ℕ
read_refused m rom vram wram save sound = or_else (state_refused m log_limit) (lengths_refused m.core rom vram wram save sound)

-- 4: a log longer than one may be
unfoldable pub log_refused : ℕ → ℕ
log_refused log = cond (nat_le log log_limit) done wrong_length

-- a call that writes them: the log is lent too
unfoldable pub lent_refused : Core → ℕ → ℕ → ℕ → ℕ → ℕ → ℕ → ℕ
lent_refused c rom vram wram save sound log = or_else (lengths_refused c rom vram wram save sound) (log_refused log)

unfoldable pub write_refused : Memory → ℕ → ℕ → ℕ → ℕ → ℕ → ℕ → ℕ
write_refused m rom vram wram save sound log = or_else (state_refused m log) (lent_refused m.core rom vram wram save sound log)

-- an index of the save's window
abbrev pub is_save : Region → Bool
is_save Rom = false
is_save Vram = false
is_save Save = true
is_save Wram = false
is_save Oam = false
is_save Page = false

unfoldable pub in_save : ℕ → Bool
in_save i = is_save (region_of i)

-- an index of the sound window, FF10..FF3F
unfoldable pub in_sound : ℕ → Bool
in_sound i = nat_le 0xFF10 i && nat_lt i 0xFF40

-- word calls: index + 1 wraps
abbrev pub next_index : ℕ → ℕ
next_index i = (i + 1) % 65536

-- 2: a byte write in A000..BFFF without room for a record; a word write with either index there, without room for two
unfoldable pub byte_room : ℕ → ℕ → ℕ → ℕ
byte_room used log i = cond (in_save i && full log used 1) no_room done

unfoldable pub either_in_save : ℕ → Bool
either_in_save i = in_save i || in_save (next_index i)

unfoldable pub word_room : ℕ → ℕ → ℕ → ℕ
word_room used log i = cond (either_in_save i && full log used 2) no_room done

-- 1: done, and the host owes the sound write
unfoldable pub byte_owed : ℕ → ℕ
byte_owed i = cond (in_sound i) owed done

unfoldable pub word_owed : ℕ → ℕ
word_owed i = cond (in_sound i || in_sound (next_index i)) owed done

-- 7: a raw load or store below FF00
unfoldable pub raw_refused : ℕ → ℕ
raw_refused i = cond (nat_lt i page_start) outside done

-- 5: cycles over 65,536
unfoldable pub cycles_refused : ℕ → ℕ
cycles_refused c = cond (nat_le c 65536) done too_many_cycles

-- 4: the length of video memory, where it alone is lent
unfoldable pub vram_length_refused : Bool → ℕ → ℕ
vram_length_refused colour vram = cond (vram == vram_len colour) done wrong_length

-- a VRAM bank is 0 or 1, and 1 in colour alone
unfoldable pub has_bank : Bool → ℕ → Bool
has_bank colour bank = cond (bank == 0) true (cond (bank == 1) colour false)

-- 7: a VRAM bank that the machine lacks, or an index outside 8000..9FFF
unfoldable pub vram_refused : Bool → ℕ → ℕ → ℕ
vram_refused colour i bank = cond (has_bank colour bank) (cond (nat_le vram_start i && nat_lt i save_start) done outside) outside

-- the refusals over a world
abbrev pub refused_read : Fixed → World → ℕ
refused_read x w =
    read_refused w.state (length x.rom) (length w.vram) (length w.wram) (length w.save) (length x.sound)

abbrev pub refused_write : Fixed → World → ℕ
refused_write x w =
    write_refused w.state (length x.rom) (length w.vram) (length w.wram) (length w.save) (length x.sound)
    (length w.log)
