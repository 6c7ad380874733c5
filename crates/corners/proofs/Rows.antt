-- The rows, each computed once the calls are known to be let in (proofs/Starts.antt).
use mathlib.Core.Bool.{true, false}
use mathlib.Core.List.{List, ◌++◌}
use mathlib.Core.Path.{refl}
use Rattle.mbc.specs.Mbc.{has_banks, has_code, described, start, fresh}
use Rattle.corners.specs.Rows.{Lent, Row, Every, none, ◌also◌}
use Rattle.corners.specs.Table.{
  rom_only,
  mbc1,
  mbc2,
  corner1,
  corner2,
  corner3,
  corner4,
  corner5,
  corner6,
  corner7,
  corner9,
  corner10,
  corner11,
  corner12,
  corner13,
  corner14,
  Corners,
}
use Rattle.corners.proofs.Opened.{opened}
use Rattle.corners.proofs.Starts.{Allowed, on_one, on_both}

rom_only_law : Allowed rom_only
unfolding fresh described has_banks has_code start
rom_only_law = record { fresh = refl; described = refl }

mbc1_4 : Allowed (mbc1 4)
unfolding fresh described has_banks has_code start
mbc1_4 = record { fresh = refl; described = refl }

mbc1_128 : Allowed (mbc1 128)
unfolding fresh described has_banks has_code start
mbc1_128 = record { fresh = refl; described = refl }

mbc2_2 : Allowed mbc2
unfolding fresh described has_banks has_code start
mbc2_2 = record { fresh = refl; described = refl }

-- two tables, one after the other
infixl 4 ◌and◌
◌and◌ : {lent : Lent} {a b : List Row} → Every lent a → Every lent b → Every lent (a ++ b)
none and q = q
(h also p) and q = h also (p and q)

module _ (lent : Lent) where
  corner_1 : Every lent corner1
  unfolding opened
  corner_1 = on_both lent rom_only rom_only_law _ refl refl also none

  corner_2 : Every lent corner2
  unfolding opened
  corner_2 =
      on_one lent rom_only rom_only_law _ false refl
      also on_one lent rom_only rom_only_law _ false refl
      also on_one lent rom_only rom_only_law _ false refl
      also none

  corner_3 : Every lent corner3
  unfolding opened
  corner_3 =
      on_both lent rom_only rom_only_law _ refl refl
      also on_both lent rom_only rom_only_law _ refl refl
      also on_both lent rom_only rom_only_law _ refl refl
      also none

  corner_4 : Every lent (corner4 lent)
  unfolding opened
  corner_4 =
      on_both lent rom_only rom_only_law _ refl refl
      also on_both lent rom_only rom_only_law _ refl refl
      also on_both lent rom_only rom_only_law _ refl refl
      also on_both lent rom_only rom_only_law _ refl refl
      also none

  corner_5 : Every lent corner5
  unfolding opened
  corner_5 =
      on_one lent rom_only rom_only_law _ true refl
      also on_one lent rom_only rom_only_law _ true refl
      also on_one lent rom_only rom_only_law _ true refl
      also on_one lent rom_only rom_only_law _ true refl
      also none

  corner_6 : Every lent corner6
  unfolding opened
  corner_6 =
      on_one lent rom_only rom_only_law _ true refl
      also on_one lent rom_only rom_only_law _ true refl
      also none

  corner_7 : Every lent (corner7 lent)
  unfolding opened
  corner_7 = on_one lent rom_only rom_only_law _ true refl also none

  corner_9 : Every lent (corner9 lent)
  unfolding opened
  corner_9 = on_one lent rom_only rom_only_law _ true refl also none

  corner_10 : Every lent corner10
  unfolding opened
  corner_10 =
      on_both lent (mbc1 4) mbc1_4 _ refl refl
      also on_both lent (mbc1 128) mbc1_128 _ refl refl
      also none

  corner_11 : Every lent (corner11 lent)
  unfolding opened
  corner_11 = on_both lent mbc2 mbc2_2 _ refl refl also none

  corner_12 : Every lent corner12
  unfolding opened
  corner_12 = on_both lent rom_only rom_only_law _ refl refl also none

  corner_13 : Every lent corner13
  unfolding opened
  corner_13 = on_one lent rom_only rom_only_law _ true refl also none

  corner_14 : Every lent corner14
  unfolding opened
  corner_14 = on_one lent rom_only rom_only_law _ false refl also none

pub corners : Corners
corners lent =
    corner_1 lent
    and corner_2 lent
    and corner_3 lent
    and corner_4 lent
    and corner_5 lent
    and corner_6 lent
    and corner_7 lent
    and corner_9 lent
    and corner_10 lent
    and corner_11 lent
    and corner_12 lent
    and corner_13 lent
    and corner_14 lent
