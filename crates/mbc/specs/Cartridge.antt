-- A cartridge's description (document 01, "Cartridge and buffers"; document 02, wish 2, N to 512, and wish 3, RAM code 4): N ROM banks of 16,384 bytes;
-- RAM codes 0, 2, 3, 4 for 0, 8,192, 32,768, 131,072 bytes.
use Rattle.std.specs.Prelude.{Bool, false, cond, not, ◌&&◌, ◌||◌, List, [], ◌∷◌, ℕ, ◌*◌, ◌^◌, eqb, leb}
use Rattle.mbc.specs.declared.cartridge.Cartridge.{Cartridge}

abbrev pub one_of : List ℕ → ℕ → Bool
one_of [] n = false
one_of (x ∷ xs) n = eqb n x || one_of xs n

-- where a is so, b is too
abbrev pub implies : Bool → Bool → Bool
implies a b = b || not a

abbrev pub cartridge_of : ℕ → ℕ → Cartridge
cartridge_of banks code = record { banks = banks; code = code }

abbrev pub rom_len : Cartridge → ℕ
rom_len c = c.banks * 0x4000

-- banks of 8,192 bytes
unfoldable pub ram_banks : ℕ → ℕ
ram_banks code = cond (eqb code 2) 1 (cond (eqb code 3) 4 (cond (eqb code 4) 16 0))

-- what N may be: the powers of two to 512
abbrev pub powers : List ℕ
powers = 2 ∷ 4 ∷ 8 ∷ 16 ∷ 32 ∷ 64 ∷ 128 ∷ 256 ∷ 512 ∷ []

-- N is a power of two, from 2 to `most`
unfoldable pub has_banks : ℕ → Cartridge → Bool
has_banks most c = leb c.banks most && one_of powers c.banks

-- what the RAM code may be
abbrev pub codes : List ℕ
codes = 0 ∷ 2 ∷ 3 ∷ 4 ∷ []

-- it is one of these, to `most`: code 4 is with MBC5 only (document 02, wish 3)
unfoldable pub has_code : ℕ → Cartridge → Bool
has_code most c = leb c.code most && one_of codes c.code

-- N's logarithm; 0 for a number that no N is
unfoldable pub log2 : ℕ → ℕ
log2 n =
    cond (eqb n 2) 1
    (cond (eqb n 4) 2
    (cond (eqb n 8) 3
    (cond (eqb n 16) 4
    (cond (eqb n 32) 5
    (cond (eqb n 64) 6
    (cond (eqb n 128) 7
    (cond (eqb n 256) 8
    (cond (eqb n 512) 9
    0))))))))

-- N of its logarithm; 0, which no cartridge has, past 9
unfoldable pub banks_of : ℕ → ℕ
banks_of log = cond (leb log 9) (2 ^ log) 0
