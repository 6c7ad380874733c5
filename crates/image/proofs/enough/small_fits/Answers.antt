-- Where no test fails, `rom_only_fits` or `mbc2_fits`.
use lib.Dec.{eqb}
use borrow.Author.Tests.{ltb-true, eqb-false, not-true}
use Prim.Native.Nat.{◌/◌, ◌%◌}
use mathlib.Core.Path.{◌≡◌}
use native.Mathlib.Omega.{arith}
use Rattle.image.proofs.MappingLaws.{other_code, rom_only_fits, mbc2_fits}
use Rattle.image.proofs.enough.small_fits.Goals as goal

pub returns-then-n-eq-ROM_ONLY : goal.returns-then-n-eq-ROM_ONLY
returns-then-n-eq-ROM_ONLY c = let n = c.args.n in
    let low : n % 131072 ≡ 256 = c.if-n-ne-ROM_UNIT.false in
    λ z. rom_only_fits n (omega (arith, c.if-n-eq-ROM_ONLY.true)) (omega (arith, c.if-n-ne1.false)) (omega (arith, low)) (omega (arith, low)) (omega (arith, low)) (omega (arith, low)) (omega (arith, low))
    (other_code _ (n / 131072 % 8) c.if-n-gt3.false (eqb-false (n / 131072 % 8) 1 (not-true (eqb (n / 131072 % 8) 1) z)))

pub returns : goal.returns
returns c = let n = c.args.n in
    let log : n / 1048576 % 8 ≡ n / 1048576 % 16 = omega (arith, c.if-n-gt4.false) in
    let two : n / 16777216 ≡ 2 = c.if-n-ne-MBC2.false in
    let kind : n / 16777216 % 4 ≡ 2 = rw two in
    λ z. mbc2_fits n kind c.if-n-gt4.false (omega (arith, c.if-log-eq0.false)) c.if-n-ne0.false
    (rw (← log, ← c.banks_of.ensures) (ltb-true _ _ z)) (omega (arith, c.if-n-ne0-2.false)) (omega (arith, c.if-n-ne0-2.false)) (omega (arith, c.if-n-ne0-3.false))
