-- What Pan Docs say of several mappers, by bits of the value that is written.
use Rattle.std.specs.Prelude.{Bool, cond, ◌&&◌, [], ◌∷◌, ◌≡◌, ℕ, ◌<◌, ◌≤◌, eqb, ltb, get_or}
use Rattle.mbc.specs.Mbc.{ram_source, answer}
use Rattle.mbc.specs.declared.cartridge.Cartridge.{Cartridge}
use Rattle.mbc.specs.Answers.{stored_as}
use Rattle.std.specs.Prelude.{None}
use Rattle.mbc.specs.declared.mbc.Mapper.{Mapper}
use Rattle.mbc.specs.declared.mbc.Source.TheVariants.{Save, Fixed}
use Rattle.pan_docs.specs.Bits.{bit, low}

-- "low four bits A enable RAM, anything else disables": A is 1010
abbrev pub low_four_a : ℕ → Bool
low_four_a v = eqb (bit v 3) 1 && (eqb (bit v 2) 0 && (eqb (bit v 1) 1 && eqb (bit v 0) 0))

-- "0 acts as 1": bit j of a bank of n bits
abbrev pub acts_as_one : ℕ → ℕ → ℕ → ℕ
acts_as_one n v j = cond (eqb (low n v) 0) (cond (eqb j 0) 1 0) (bit v j)

-- "Bank bits beyond the cartridge's size are masked": of 2 ^ n banks, n bits are left of those chosen
abbrev pub Masked : ℕ → (ℕ → ℕ) → ℕ → Type 0
Masked n chosen bank = (j : ℕ) → bit bank j ≡ cond (ltb j n) (chosen j) 0

-- Cartridge RAM, at an index of A000-BFFF

-- document 01: "RAM code .. 0, 2, 3 for 0, 8,192, 32,768 bytes"; document 02, wish 3: "RAM code 4 means 131,072 bytes"
abbrev pub ram_size : ℕ → ℕ
ram_size code = get_or (0 ∷ 0 ∷ 8192 ∷ 32768 ∷ 131072 ∷ []) code 0

-- on: a read finds the byte at a place, and a write of v stores it there; document 01: "A write whose address is not below the RAM length is
-- "not stored""
pub record RamAt (c : Cartridge) (m : Mapper) (index v place : ℕ) : Type 0 where
  pub read : ram_source c m index ≡ Save place
  pub stored : place < ram_size c.code → answer c m index v ≡ stored_as place v
  pub past : ram_size c.code ≤ place → answer c m index v ≡ None

-- "RAM off reads FF, writes are ignored"
pub record RamOff (c : Cartridge) (m : Mapper) (index v : ℕ) : Type 0 where
  pub read : ram_source c m index ≡ Fixed 0xFF
  pub ignored : answer c m index v ≡ None
