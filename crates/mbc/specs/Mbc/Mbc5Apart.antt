-- Pan Docs, "MBC5": the ROM bank in two registers, kept apart and whole; the bank that is shown is taken modulo the banks present (document 02, wish 2).
-- specs/Mbc.antt, `OneField`, says that the one field shows the same.
use Rattle.std.specs.Prelude.{cond, List, [], ◌∷◌, ℕ, ltb}
use Rattle.mbc.specs.PanDocs.{mbc5_bank, masked}

pub record Apart : Type 0 where
  pub eight : ℕ
  pub ninth : ℕ

abbrev pub apart_of : ℕ → ℕ → Apart
apart_of eight ninth = record { eight = eight; ninth = ninth }

-- ROM bank 1
abbrev pub apart_start : Apart
apart_start = apart_of 1 0

abbrev pub shown : ℕ → Apart → ℕ
shown banks a = masked banks (mbc5_bank a.eight a.ninth)

-- 2000..2FFF and 3000..3FFF; no other write is theirs
unfoldable pub apart_after : Apart → ℕ → ℕ → Apart
apart_after a index value =
    cond (ltb index 0x2000) a
    (cond (ltb index 0x3000) (apart_of value a.ninth)
    (cond (ltb index 0x4000) (apart_of a.eight value)
    a))

-- after some writes, each an index and a value
abbrev pub apart_all : Apart → List (ℕ × ℕ) → Apart
apart_all a [] = a
apart_all a (w ∷ ws) = apart_all (apart_after a w.0 w.1) ws
