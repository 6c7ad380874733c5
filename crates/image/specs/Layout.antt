-- The state image (document 01, "Save log and state image", and document 02, wishes 2 and 3): 666 bytes, most significant bit first. `widths` is the one place that has the layout,
-- `values` what stands there; the image is the number that they make, in bytes. All that is said field by field is said here.
use Rattle.std.specs.Prelude.{Bool, cond, List, [], ◌∷◌, ◌++◌, ℕ, eqb, ℤ, get_or}
use Rattle.std.specs.Int.{w32}
use Rattle.std.proofs.Common.{of_z, to_z}
use Rattle.packing.specs.Packing.{repacked, eights, fives}
use Rattle.hdma.specs.declared.Hdma.{Hdma}
use Rattle.joypad.specs.declared.Controller.{Controller}
use Rattle.lcd.specs.declared.Lcd.{Lcd}
use Rattle.palette.specs.declared.Color.{Color}
use Rattle.mbc.specs.Mbc as mbc
use Rattle.mbc.specs.Mbc.{registers_of, log2}
use Rattle.mbc.specs.declared.cartridge.Cartridge.{Cartridge}
use Rattle.mbc.specs.declared.mbc.Mapper.{Mapper}
use Rattle.mbc.specs.declared.held.Registers.{Registers}
use Rattle.memory.specs.declared.Banks.{Banks}
use Rattle.memory.specs.declared.Clock.{Clock}
use Rattle.memory.specs.declared.Core.{Core}
use Rattle.memory.specs.declared.Memory.{Memory}

abbrev pub image_len : ℕ
image_len = 666

-- The fields behind the colours: first those before the mapper

abbrev pub head_widths : List ℕ
head_widths =
    -- colour, screen disabled, HDMA on, VRAM bank, WRAM bank, action mark
    1 ∷ 1 ∷ 1 ∷ 1 ∷ 3 ∷ 1 ∷
    -- direction mark, `joypad_state`, released, scan line, `irq48_signal`, LCD mode, `div_cycles`, `tima_cycles`
    1 ∷ 8 ∷ 8 ∷ 8 ∷ 8 ∷ 8 ∷ 8 ∷ 10 ∷
    -- HDMA source, destination; delay, counter, aux counter, window line
    16 ∷ 16 ∷ 32 ∷ 32 ∷ 32 ∷ 32 ∷ []

abbrev pub bit : Bool → ℕ
bit b = cond b 1 0

-- two's complement
abbrev pub complement : ℤ → ℕ
complement z = of_z w32 z

abbrev pub head_values : Core → List ℕ
head_values c =
    bit c.banks.colour ∷ bit c.lcd.disabled ∷ bit c.hdma.on ∷ c.banks.vram ∷ c.banks.wram ∷ bit c.joypad.action ∷
    bit c.joypad.direction ∷ c.joypad.state ∷ c.joypad.released ∷ c.lcd.line ∷ c.lcd.signal ∷ c.lcd.mode ∷ c.clock.div ∷ c.clock.tima ∷
    c.hdma.source ∷ c.hdma.destination ∷
    complement c.lcd.delay ∷ complement c.lcd.counter ∷ complement c.lcd.aux ∷ complement c.lcd.window ∷ []

-- then mapper, log2 N, RAM code, ROM bank, RAM bank, mode, enabled, high bits; log use, three 0 bits

abbrev pub tail_widths : List ℕ
tail_widths = 2 ∷ 4 ∷ 3 ∷ 9 ∷ 4 ∷ 1 ∷ 1 ∷ 2 ∷ 16 ∷ 3 ∷ []

-- "Fields that a mapper lacks hold their starting values": `registers_of`
abbrev pub tail_values : Core → List ℕ
tail_values c =
    (registers_of c.mapper).kind ∷ log2 c.cartridge.banks ∷ c.cartridge.code ∷ (registers_of c.mapper).rom ∷ (registers_of c.mapper).ram ∷
    (registers_of c.mapper).mode ∷ (registers_of c.mapper).enabled ∷ (registers_of c.mapper).high ∷ c.used ∷ 0 ∷ []

abbrev pub field_widths : List ℕ
field_widths = head_widths ++ tail_widths

abbrev pub field_values : Core → List ℕ
field_values c = head_values c ++ tail_values c

-- the numbers of the last two
abbrev pub used_field : ℕ
used_field = 28

abbrev pub zeros_field : ℕ
zeros_field = 29

-- And back: the state that fields have

abbrev pub at : List ℕ → ℕ → ℕ
at fs k = get_or fs k 0

abbrev pub is_on : List ℕ → ℕ → Bool
is_on fs k = eqb (at fs k) 1

abbrev pub signed : List ℕ → ℕ → ℤ
signed fs k = to_z w32 (at fs k)

-- the groups, by their fields' numbers in `field_widths`

abbrev pub banks_of : List ℕ → Banks
banks_of fs = record { colour = is_on fs 0; vram = at fs 3; wram = at fs 4 }

abbrev pub lcd_of : List ℕ → Lcd
lcd_of fs =
    record {
      disabled = is_on fs 1;
      line = at fs 9;
      signal = at fs 10;
      mode = at fs 11;
      delay = signed fs 16;
      counter = signed fs 17;
      aux = signed fs 18;
      window = signed fs 19;
    }

abbrev pub hdma_of : List ℕ → Hdma
hdma_of fs = record { on = is_on fs 2; source = at fs 14; destination = at fs 15 }

abbrev pub joypad_of : List ℕ → Controller
joypad_of fs = record { released = at fs 8; action = is_on fs 5; direction = is_on fs 6; state = at fs 7 }

abbrev pub clock_of : List ℕ → Clock
clock_of fs = record { div = at fs 12; tima = at fs 13 }

abbrev pub cartridge_of : List ℕ → Cartridge
cartridge_of fs = record { banks = mbc.banks_of (at fs 21); code = at fs 22 }

abbrev pub registers_in : List ℕ → Registers
registers_in fs = record { kind = at fs 20; rom = at fs 23; ram = at fs 24; mode = at fs 25; enabled = at fs 26; high = at fs 27 }

-- all but the arrays
abbrev pub core_from : List ℕ → Core
core_from fs =
    record {
      banks = banks_of fs;
      lcd = lcd_of fs;
      hdma = hdma_of fs;
      joypad = joypad_of fs;
      clock = clock_of fs;
      cartridge = cartridge_of fs;
      mapper = mbc.mapper_of (registers_in fs);
      used = at fs used_field;
    }

-- Each group's fields: their numbers in `field_widths`, and their values

abbrev pub banks_fields : Banks → List (ℕ × ℕ)
banks_fields b = (0, bit b.colour) ∷ (3, b.vram) ∷ (4, b.wram) ∷ []

abbrev pub lines_fields : Lcd → List (ℕ × ℕ)
lines_fields l = (1, bit l.disabled) ∷ (9, l.line) ∷ (10, l.signal) ∷ (11, l.mode) ∷ []

abbrev pub lcd_fields : Lcd → List (ℕ × ℕ)
lcd_fields l =
    lines_fields l
    ++ ((16, complement l.delay) ∷ (17, complement l.counter) ∷ (18, complement l.aux) ∷ (19, complement l.window) ∷ [])

abbrev pub hdma_fields : Hdma → List (ℕ × ℕ)
hdma_fields h = (2, bit h.on) ∷ (14, h.source) ∷ (15, h.destination) ∷ []

abbrev pub joypad_fields : Controller → List (ℕ × ℕ)
joypad_fields j = (5, bit j.action) ∷ (6, bit j.direction) ∷ (7, j.state) ∷ (8, j.released) ∷ []

abbrev pub clock_fields : Clock → List (ℕ × ℕ)
clock_fields c = (12, c.div) ∷ (13, c.tima) ∷ []

abbrev pub cartridge_fields : Cartridge → List (ℕ × ℕ)
cartridge_fields c = (21, log2 c.banks) ∷ (22, c.code) ∷ []

-- side by side in the image
abbrev pub numbers_fields : Registers → List (ℕ × ℕ)
numbers_fields r = (23, r.rom) ∷ (24, r.ram) ∷ (25, r.mode) ∷ (26, r.enabled) ∷ (27, r.high) ∷ []

abbrev pub registers_fields : Registers → List (ℕ × ℕ)
registers_fields r = (20, r.kind) ∷ numbers_fields r

abbrev pub used_fields : ℕ → List (ℕ × ℕ)
used_fields u = (used_field, u) ∷ []

abbrev pub mapping_fields : Mapper → ℕ → List (ℕ × ℕ)
mapping_fields p u = registers_fields (registers_of p) ++ used_fields u

abbrev pub groups_fields : Core → List (ℕ × ℕ)
groups_fields c =
    banks_fields c.banks
    ++ (lcd_fields c.lcd
    ++ (hdma_fields c.hdma
    ++ (joypad_fields c.joypad ++ (clock_fields c.clock ++ (cartridge_fields c.cartridge ++ mapping_fields c.mapper c.used)))))

abbrev pub core_fields : Core → List (ℕ × ℕ)
core_fields c = groups_fields c ++ ((zeros_field, 0) ∷ [])

-- What bounds the fields that have no range

-- true or false
abbrev pub flags : Core → List Bool
flags c = c.banks.colour ∷ c.lcd.disabled ∷ c.hdma.on ∷ c.joypad.action ∷ c.joypad.direction ∷ []

-- as wide as their types, without a sign, by their numbers: joypad, scan line, `irq48_signal`, LCD mode, `div_cycles`, HDMA source, destination
abbrev pub typed_fields : List ℕ
typed_fields = 7 ∷ 8 ∷ 9 ∷ 10 ∷ 11 ∷ 12 ∷ 14 ∷ 15 ∷ []

abbrev pub picked : List ℕ → List ℕ → List ℕ
picked [] fs = []
picked (k ∷ ks) fs = at fs k ∷ picked ks fs

-- OAM and high page; red, green, blue of 32 background and 32 sprite colours; the fields
unfoldable pub widths : List ℕ
widths = eights 512 ++ (fives 192 ++ field_widths)

abbrev pub channels : List Color → List ℕ
channels [] = []
channels (c ∷ colors) = c.red ∷ c.green ∷ c.blue ∷ channels colors

unfoldable pub values : Memory → List ℕ
values m = (m.oam ++ m.page) ++ ((channels m.background ++ channels m.sprites) ++ field_values m.core)

unfoldable pub image_of : Memory → List ℕ
image_of m = repacked widths (eights image_len) (values m)
