-- From Pan Docs, "CGB Registers": FF51..FF55, the transfers to video memory.
use Rattle.std.specs.Prelude.{ℕ, ◌+◌, ◌*◌, ◌/◌, ◌%◌, Bool, not, ◌&&◌}
use Rattle.bit_utils.specs.Bits.{is_set}

-- FF51, FF52: the source by its high and low byte, the low 4 bits ignored
abbrev pub source_of : ℕ → ℕ → ℕ
source_of high low = high * 256 + low / 16 % 16 * 16

-- FF53, FF54: the destination, in video memory; of the address only bits 12..4 count
abbrev pub destination_of : ℕ → ℕ → ℕ
destination_of high low = 0x8000 + high % 32 * 256 + low / 16 % 16 * 16

-- FF55: the length is (bits 6..0 + 1) x 16
abbrev pub length_of : ℕ → ℕ
length_of value = (value % 128 + 1) * 16

-- FF55, bit 7: at 1 a transfer of sixteen bytes at each HBlank runs from now on; at 0 none does
abbrev pub hblank : ℕ → Bool
hblank value = is_set value 7

-- FF55, bit 7 at 0: all is copied at once, but where an HBlank transfer runs, that is stopped and no more
abbrev pub general : Bool → ℕ → Bool
general runs value = not runs && not (hblank value)

-- a general transfer that is done reads FF
abbrev pub done_byte : ℕ
done_byte = 255
