-- The fields of an image at their places, read and put there: how the code goes. Nothing here need be believed: proofs/FieldLaws.antt has that the fields
-- read are those of specs/Load.antt (`values_of`), proofs/PatchLaws.antt that an image with fields put is `image_of` of the changed state.
use Rattle.std.specs.Prelude.{Bool, true, ◌&&◌, List, ◌++◌, ◌≡◌, ◌⊎◌, ℕ, suc, ◌+◌, ◌*◌, ◌/◌, ◌%◌, ◌^◌, ◌≤◌, eqb, length, take, drop, get_or}
use Rattle.packing.specs.Packing.{bits, repacked, eights, fives}
use Rattle.places.specs.Places.{field_at, put_at, fields_from, put_fields, FitAll}
use Rattle.palette.specs.declared.Color.{Color}
use Rattle.hdma.specs.declared.Hdma.{Hdma}
use Rattle.mbc.specs.Mbc as mbc
use Rattle.mbc.specs.Mbc.{registers_of}
use Rattle.mbc.specs.declared.cartridge.Cartridge.{Cartridge}
use Rattle.mbc.specs.declared.held.Registers.{Registers}
use Rattle.mbc.specs.declared.mbc.Mapper.{Mapper}
use Rattle.savelog.specs.Log.{log_limit, use_in_range}
use Rattle.memory.specs.declared.Banks.{Banks}
use Rattle.memory.specs.declared.Clock.{Clock}
use Rattle.memory.specs.declared.Memory.{Memory}
use Rattle.memory.specs.Ranges.{banks_in_range, hdma_in_range, vram_len, wram_len}
use Rattle.image.specs.Layout.{image_len, head_widths, tail_widths, field_widths, used_field, zeros_field, channels}
pub use Rattle.image.specs.Layout.{banks_fields, lines_fields, lcd_fields, hdma_fields, joypad_fields, clock_fields, cartridge_fields, numbers_fields, registers_fields, used_fields, mapping_fields, groups_fields, core_fields}
use Rattle.image.specs.Load.{at, is_on, banks_of, hdma_of, cartridge_of, registers_in}

-- the bytes before the fields
unfoldable pub arrays_of : Memory → List ℕ
arrays_of m =
    (m.oam ++ m.page)
    ++ (repacked (fives 96) (eights 60) (channels m.background) ++ repacked (fives 96) (eights 60) (channels m.sprites))

-- and their bits
abbrev pub front : ℕ
front = 5056

abbrev pub fields : List ℕ → List ℕ
fields l = fields_from l front field_widths

-- A colour at its place: 32 of the background, then 32 of the sprites

abbrev pub color_place : ℕ → ℕ
color_place k = 4096 + k * 15

abbrev pub color_in : List ℕ → ℕ → Color
color_in l k =
    record { red = field_at l (color_place k) 5; green = field_at l (color_place k + 5) 5; blue = field_at l (color_place k + 10) 5 }

unfoldable pub color_put : List ℕ → ℕ → Color → List ℕ
color_put l k c =
    put_at (put_at (put_at l (color_place k) 5 c.red) (color_place k + 5) 5 c.green) (color_place k + 10) 5 c.blue

-- What a load asks of them, in the code's order (proofs/LoadLaws.antt, `load_fits`): those before the mapper, and those from it on

abbrev pub head_fits : List ℕ → Bool
head_fits fs = banks_in_range (banks_of fs) && hdma_in_range (hdma_of fs) (is_on fs 0)

abbrev pub mapper_fits : List ℕ → Bool
mapper_fits fs = mbc.sound (registers_in fs) && mbc.in_range (cartridge_of fs) (mbc.mapper_of (registers_in fs))

abbrev pub tail_fits : List ℕ → Bool
tail_fits fs = mapper_fits fs && (eqb (at fs zeros_field) 0 && use_in_range (at fs used_field) log_limit)

-- The same in two: the length and the mapper, and the rest

pub record Mapped (l : List ℕ) : Type 0 where
  pub size : length l ≡ image_len
  pub mapper : mapper_fits (fields l) ≡ true

abbrev pub rest_fits : List ℕ → Bool
rest_fits fs = head_fits fs && (eqb (at fs zeros_field) 0 && use_in_range (at fs used_field) log_limit)

-- All that there is of a mapper, from its kind to the high bits, stands side by side: as one number, and each of its parts

abbrev pub mapping_widths : List ℕ
mapping_widths = take 8 tail_widths

abbrev pub mapping_bits : ℕ
mapping_bits = bits mapping_widths

unfoldable pub mapping_number : List ℕ → ℕ
mapping_number l = field_at l (front + bits head_widths) mapping_bits

abbrev pub part : ℕ → ℕ → ℕ
part n k = n / 2 ^ bits (drop (suc k) mapping_widths) % 2 ^ get_or mapping_widths k 0

abbrev pub cartridge_by : ℕ → Cartridge
cartridge_by n = record { banks = mbc.banks_of (part n 1); code = part n 2 }

abbrev pub registers_by : ℕ → Registers
registers_by n = record { kind = part n 0; rom = part n 3; ram = part n 4; mode = part n 5; enabled = part n 6; high = part n 7 }

abbrev pub mapper_by : ℕ → Bool
mapper_by n = mbc.sound (registers_by n) && mbc.in_range (cartridge_by n) (mbc.mapper_of (registers_by n))

-- what the tests of the commonest mappers say: Mbc1, or Mbc5 without what it lacks
abbrev pub CommonKind : ℕ → Type 0
CommonKind n = (part n 0 ≡ mbc.kind_mbc1) ⊎ ((part n 0 ≡ mbc.kind_mbc5) × ((part n 5 ≡ 0) × (part n 7 ≡ 0)))

-- such a mapper fits, has at most 128 banks, and a save of s bytes
pub record Common (n s : ℕ) : Type 0 where
  pub fits : mapper_by n ≡ true
  pub log : part n 1 ≤ 7
  pub save : s ≡ mbc.ram_len (cartridge_by n) (mbc.mapper_of (registers_by n))

-- What the tests that are enough for a load say, with the lengths of what is lent beside the image

pub record MapperFits (l : List ℕ) (m n : ℕ) : Type 0 where
  pub size : length l ≡ image_len
  pub mapper : mapper_fits (fields l) ≡ true
  pub rom : m ≡ mbc.rom_len (cartridge_of (fields l))
  pub save : n ≡ mbc.ram_len (cartridge_of (fields l)) (mbc.mapper_of (registers_in (fields l)))

pub record MachineFits (b : Banks) (h : Hdma) (m n : ℕ) : Type 0 where
  pub banks : banks_in_range b ≡ true
  pub hdma : hdma_in_range h b.colour ≡ true
  pub vram : m ≡ vram_len b.colour
  pub wram : n ≡ wram_len b.colour

-- in range both or none, on either machine
abbrev pub SameRange : Hdma → Hdma → Type 0
SameRange h k = (colour : Bool) → hdma_in_range h colour ≡ hdma_in_range k colour

pub record RestFits (l : List ℕ) (m n : ℕ) : Type 0 where
  pub machine : MachineFits (banks_of (fields l)) (hdma_of (fields l)) m n
  pub zeros : eqb (at (fields l) zeros_field) 0 ≡ true
  pub used : use_in_range (at (fields l) used_field) log_limit ≡ true

-- fields of an image put, and that each is within its width
abbrev pub put : List (ℕ × ℕ) → List ℕ → List ℕ
put ps l = put_fields front field_widths ps l

abbrev pub Fits : List (ℕ × ℕ) → Type 0
Fits ps = FitAll field_widths ps

-- For the callers who change an image in place

-- what the mapper's ranges give
abbrev pub Slim : Mapper → Type 0
Slim p = Fits (registers_fields (registers_of p))

unfoldable pub used_put : List ℕ → ℕ → List ℕ
used_put l u = put (used_fields u) l

unfoldable pub mapping_put : List ℕ → Mapper → ℕ → List ℕ
mapping_put l p u = put (mapping_fields p u) l

unfoldable pub clock_put : List ℕ → Clock → List ℕ
clock_put l c = put (clock_fields c) l
