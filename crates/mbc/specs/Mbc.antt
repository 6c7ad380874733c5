-- The mappers as documents 01 (sections are named in quotes) and 02 have them. A further mapper is a file like specs/Mbc/RomOnlyRules.antt, one case of `behaviour`,
-- one of `mapper_of` and the last kind in `known`; all else is common, but for MBC5's `OneField`. Pan Docs' pieces are in specs/PanDocs.antt.
use Rattle.std.specs.Prelude.{◌≡◌, Bool, true, cond, not, ◌&&◌, ◌||◌, List, [], ◌∷◌, ℕ, Option, None, ◌*◌, ◌<◌, eqb, ltb, leb, length, get_or}
use Rattle.numbers.specs.Numbers.{done, out_of_range, wrong_length, outside}
use Rattle.mbc.specs.PanDocs.{half_byte, rom_place}
use Rattle.mbc.specs.Behaviour.{Behaviour}
use Rattle.mbc.specs.declared.cartridge.Cartridge.{Cartridge}
use Rattle.mbc.specs.declared.held.Registers.{Registers}
use Rattle.mbc.specs.declared.mbc.Mapper.{Mapper}
use Rattle.mbc.specs.declared.mbc.Mapper.TheVariants.{RomOnly, Mbc1, Mbc2, Mbc5}
use Rattle.mbc.specs.declared.mbc.Source.{Source}
use Rattle.mbc.specs.declared.mbc.Source.TheVariants.{Rom, Save, Half, Fixed}
use Rattle.mbc.specs.declared.mbc.Stored.{Stored}
use Rattle.mbc.specs.declared.mbc.Written.{Written}
pub use Rattle.mbc.specs.Answers.{stored_as, Fresh, ReadByte, WriteByte, fresh_of, read_of, wrote_of}
pub use Rattle.mbc.specs.Cartridge.{one_of, implies, cartridge_of, rom_len, powers}
unfoldable pub use Rattle.mbc.specs.Cartridge.{ram_banks, has_banks, has_code, log2, banks_of}
pub use Rattle.mbc.specs.Registers.{starting, bit, is_on}
unfoldable pub use Rattle.mbc.specs.Registers.{same}
pub use Rattle.mbc.specs.Mbc.RomOnlyRules.{kind_rom_only, rom_only}
pub use Rattle.mbc.specs.Mbc.Mbc1Rules.{kind_mbc1, mbc1, from1, held1, ram_source1, numbers1, with_rom, with_ram, with_mode, with_enabled, with_high}
unfoldable pub use Rattle.mbc.specs.Mbc.Mbc1Rules.{suits, ram_bank1, enable1, low1, high1, mode1, after1}
pub use Rattle.mbc.specs.Mbc.Mbc2Rules.{kind_mbc2, mbc2, from2, ram_source2, numbers2}
unfoldable pub use Rattle.mbc.specs.Mbc.Mbc2Rules.{enable2, select2, after2}
pub use Rattle.mbc.specs.Mbc.Mbc5Rules.{kind_mbc5, mbc5, from5, held5, numbers5, with_rom5, with_ram5, with_enabled5}
unfoldable pub use Rattle.mbc.specs.Mbc.Mbc5Rules.{chosen_ram, ram_fits, enable5, low5, ninth5, ram5, after5}
pub use Rattle.mbc.specs.Mbc.Mbc5Apart.{Apart, apart_of, apart_start, shown, apart_all}
unfoldable pub use Rattle.mbc.specs.Mbc.Mbc5Apart.{apart_after}
pub mod RomOnlyRules
pub mod Mbc1Rules
pub mod Mbc2Rules
pub mod Mbc5Rules
pub mod Mbc5Apart

-- The cases

abbrev pub behaviour : Mapper → Behaviour
behaviour RomOnly = rom_only
behaviour (Mbc1 m) = mbc1 m
behaviour (Mbc2 m) = mbc2 m
behaviour (Mbc5 m) = mbc5 m

-- kinds as in the state image
abbrev pub mapper_of : Registers → Mapper
mapper_of r =
    cond (eqb r.kind kind_rom_only) RomOnly
    (cond (eqb r.kind kind_mbc1) (Mbc1 (from1 r))
    (cond (eqb r.kind kind_mbc2) (Mbc2 (from2 r))
    (Mbc5 (from5 r))))

-- there is no kind past the last
abbrev pub known : ℕ → Bool
known kind = leb kind kind_mbc5

-- What is common: the fields as numbers

abbrev pub registers_of : Mapper → Registers
registers_of m = (behaviour m).registers

-- "State image", what is refused: registers that no mapper has, so a kind that is not known, or a field that the mapper lacks and that does not hold
-- its starting value
unfoldable pub sound : Registers → Bool
sound r = same r (registers_of (mapper_of r))

-- a mapper as it starts
unfoldable pub start : ℕ → Mapper
start kind = mapper_of (starting kind)

-- Lengths and ranges

unfoldable pub ram_len : Cartridge → Mapper → ℕ
ram_len c m = cond (eqb (behaviour m).own_ram 0) (ram_banks c.code * 0x2000) (behaviour m).own_ram

unfoldable pub described : Cartridge → Mapper → Bool
described c m = (behaviour m).described c

unfoldable pub held : Cartridge → Mapper → Bool
held c m = (behaviour m).held c

unfoldable pub in_range : Cartridge → Mapper → Bool
in_range c m = described c m && held c m

-- "Numbers a call gives back", 7: a mapper answers for 0000..7FFF and A000..BFFF
unfoldable pub mapped : ℕ → Bool
mapped index = ltb index 0x8000 || (leb 0xA000 index && ltb index 0xC000)

-- "Mappers", reads: first where the byte is found

-- the ROM bank at 4000..7FFF
abbrev pub rom_bank : Mapper → ℕ
rom_bank m = (registers_of m).rom

unfoldable pub ram_source : Cartridge → Mapper → ℕ → Source
ram_source c m index = (behaviour m).ram_source c index

-- Memory Map: the first bank, the bank that is selected, cartridge RAM
unfoldable pub source : Cartridge → Mapper → ℕ → Source
source c m index = cond (ltb index 0x8000) (Rom (rom_place (rom_bank m) index)) (ram_source c m index)

-- an address lies in the memory that it is of: a ROM and a save of these lengths
abbrev pub Within : ℕ → ℕ → Source → Type 0
Within rom save (Rom at) = at < rom
Within rom save (Save at) = at < save
Within rom save (Half at) = at < save
Within rom save (Fixed byte) = byte < 256

-- and then the byte
abbrev pub byte_of : List ℕ → List ℕ → Source → ℕ
byte_of rom save (Rom at) = get_or rom at 0
byte_of rom save (Save at) = get_or save at 0
byte_of rom save (Half at) = half_byte (get_or save at 0)
byte_of rom save (Fixed byte) = byte

abbrev pub read_at : Cartridge → Mapper → List ℕ → List ℕ → ℕ → ℕ
read_at c m rom save index = byte_of rom save (source c m index)

-- "Mappers", writes. What a write asks of the save: the byte that a read would find there, if its address is below the RAM length

-- ... wherever its address lies
abbrev pub kept : ℕ → Source → Option Stored
kept value (Rom at) = None
kept value (Save at) = stored_as at value
kept value (Half at) = stored_as at (half_byte value)
kept value (Fixed byte) = None

abbrev pub stored_at : ℕ → ℕ → Source → Option Stored
stored_at len value (Rom at) = None
stored_at len value (Save at) = cond (ltb at len) (stored_as at value) None
stored_at len value (Half at) = cond (ltb at len) (stored_as at (half_byte value)) None
stored_at len value (Fixed byte) = None

abbrev pub answer : Cartridge → Mapper → ℕ → ℕ → Option Stored
answer c m index value = stored_at (ram_len c m) value (source c m index)

abbrev pub after : Cartridge → Mapper → ℕ → ℕ → Mapper
after c m index value = (behaviour m).after c index value

abbrev pub written : Cartridge → Mapper → ℕ → ℕ → Written
written c m index value = record { mapper = after c m index value; answer = answer c m index value }

-- and after some writes, each an index and a value
abbrev pub after_all : Cartridge → Mapper → List (ℕ × ℕ) → Mapper
after_all c m [] = m
after_all c m (w ∷ ws) = after_all c (after c m w.0 w.1) ws

-- MBC5's ROM bank is one field here, masked at each write, and two registers with Pan Docs: whatever is written, they show the same bank
abbrev pub OneField : Type 0
OneField =
    (c : Cartridge) (ws : List (ℕ × ℕ))
    → described c (start kind_mbc5) ≡ true
    → rom_bank (after_all c (start kind_mbc5) ws) ≡ shown c.banks (apart_all apart_start ws)

-- The public calls ("Numbers a call gives back": order 3, 4, 7)

-- "Numbers a call gives back", 3: a description out of range gives the all-zero state
unfoldable pub fresh : ℕ → ℕ → ℕ → Fresh
fresh kind banks code =
    cond (known kind && described (cartridge_of banks code) (start kind))
    (record { number = done; cartridge = cartridge_of banks code; mapper = start kind })
    (record { number = out_of_range; cartridge = cartridge_of 0 0; mapper = RomOnly })

-- the lengths that the lent ROM and save must have
unfoldable pub lengths : Cartridge → Mapper → ℕ → ℕ → Bool
lengths c m rom save = eqb rom (rom_len c) && eqb save (ram_len c m)

abbrev pub read_as : ℕ → ℕ → ReadByte
read_as number value = record { number = number; value = value }

-- a refused read gives 0
unfoldable pub read_byte : Cartridge → Mapper → List ℕ → List ℕ → ℕ → ReadByte
read_byte c m rom save index =
    cond (not (in_range c m)) (read_as out_of_range 0)
    (cond (not (lengths c m (length rom) (length save))) (read_as wrong_length 0)
    (cond (not (mapped index)) (read_as outside 0)
    (read_as done (read_at c m rom save index))))

abbrev pub wrote_as : ℕ → Mapper → Option Stored → WriteByte
wrote_as number m a = record { number = number; mapper = m; answer = a }

-- a refused write changes nothing
unfoldable pub write_byte : Cartridge → Mapper → ℕ → ℕ → WriteByte
write_byte c m index value =
    cond (not (in_range c m)) (wrote_as out_of_range m None)
    (cond (not (mapped index)) (wrote_as outside m None)
    (wrote_as done (after c m index value) (answer c m index value)))
