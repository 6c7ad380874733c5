-- The cartridges that there are, in the words and numbers of documents 01 and 02: nothing here is named after what a fresh bus tests.
use Rattle.std.specs.Prelude.{List, [], ◌∷◌, ◌++◌, ◌⊎◌, ◌≡◌, ℕ}

abbrev pub OneOf : {A : Type 0} → A → List A → Type 0
OneOf a [] = ⊥
OneOf a (x ∷ xs) = (a ≡ x) ⊎ OneOf a xs

-- Document 01, "Cartridge and buffers": "ROM is N banks of 16,384 bytes, N a power of two"
abbrev pub to16 : List ℕ
to16 = 2 ∷ 4 ∷ 8 ∷ 16 ∷ []

abbrev pub to128 : List ℕ
to128 = to16 ++ 32 ∷ 64 ∷ 128 ∷ []

abbrev pub to512 : List ℕ
to512 = to128 ++ 256 ∷ 512 ∷ []

-- "RAM code (read as the header's code): 0, 2, 3 for 0, 8,192, 32,768 bytes"; document 02, wish 3: "RAM code 4 means 131,072 bytes"
abbrev pub rams : List (ℕ × ℕ)
rams = (0, 0) ∷ (2, 8192) ∷ (3, 32768) ∷ []

abbrev pub rams_with4 : List (ℕ × ℕ)
rams_with4 = rams ++ (4, 131072) ∷ []

-- Mapper as in the state image, N, RAM code, bytes of RAM. "RomOnly: N = 2. Mbc1: 2..128. Mbc2: 2..16"; "Mbc2 has code 0 and 512 bytes".
-- Document 02, wish 2, MBC5: "N from 2 to 512", "RAM codes 0, 2 and 3"; wish 3: code 4 "with MBC5 only"
pub data Described : ℕ → ℕ → ℕ → ℕ → Type 0 where
  rom_only : {code ram : ℕ} → OneOf (code, ram) rams → Described 0 2 code ram
  mbc1 : {banks code ram : ℕ} → OneOf banks to128 → OneOf (code, ram) rams → Described 1 banks code ram
  mbc2 : {banks : ℕ} → OneOf banks to16 → Described 2 banks 0 512
  mbc5 : {banks code ram : ℕ} → OneOf banks to512 → OneOf (code, ram) rams_with4 → Described 3 banks code ram
