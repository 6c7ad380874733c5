-- From Pan Docs, "Palettes (CGB)": a palette memory of 64 bytes holds eight palettes of four colours.
use Rattle.std.specs.Prelude.{Bool, cond, List, ℕ, ◌+◌, ◌*◌, ◌/◌, ◌%◌, get_or, set}
use Rattle.bit_utils.specs.Bits.{is_set}
use Rattle.palette.specs.declared.Color.{Color}

-- the index register: bits 5..0 are an address, and bit 7 moves it up by one after each write of data
abbrev pub address_of : ℕ → ℕ
address_of index = index % 64

abbrev pub moves : ℕ → Bool
moves index = is_set index 7

abbrev pub next_address : ℕ → ℕ
next_address index = (address_of index + 1) % 64

-- each colour is two bytes, the low one first
abbrev pub color_of : ℕ → ℕ
color_of address = address / 2

abbrev pub is_high : ℕ → Bool
is_high address = is_set address 0

-- red in bits 4..0, green in 9..5, blue in 14..10
abbrev pub number_of : Color → ℕ
number_of c = c.red % 32 + c.green % 32 * 32 + c.blue % 32 * 1024

abbrev pub channels : ℕ → Color
channels n = record { red = n % 32; green = n / 32 % 32; blue = n / 1024 % 32 }

abbrev pub low_byte : ℕ → ℕ
low_byte n = n % 256

abbrev pub high_byte : ℕ → ℕ
high_byte n = n / 256

-- the number once a byte is written; bit 15 is not there
abbrev pub with_low : ℕ → ℕ → ℕ
with_low n byte = n / 256 * 256 + byte

abbrev pub with_high : ℕ → ℕ → ℕ
with_high n byte = byte % 128 * 256 + n % 256

-- the byte at an address in a colour, and the colour once one is written there
abbrev pub byte_in : Color → ℕ → ℕ
byte_in c address = cond (is_high address) (high_byte (number_of c)) (low_byte (number_of c))

abbrev pub put_in : Color → ℕ → ℕ → Color
put_in c address byte = channels (cond (is_high address) (with_high (number_of c) byte) (with_low (number_of c) byte))

-- the colour that an address is in
abbrev pub color_at : List Color → ℕ → Color
color_at colors address = get_or colors (color_of address) (channels 0)

-- the byte at an address
unfoldable pub byte_at : List Color → ℕ → ℕ
byte_at colors address = byte_in (color_at colors address) address

-- the colours once a byte is written at an address
unfoldable pub put_at : List Color → ℕ → ℕ → List Color
put_at colors address byte = set colors (color_of address) (put_in (color_at colors address) address byte)
