-- Where no test fails, `common`: by the RAM code, which has four values.
use borrow.Author.Tests.{not-false}
use native.Mathlib.Omega.{arith}
use Prim.Native.Nat.{◌/◌, ◌%◌, ◌≤◌}
use mathlib.Core.Path.{◌≡◌}
use Rattle.mbc.specs.Mbc.{ram_banks}
use Rattle.mbc.proofs.Enough.{four, one, none}
use Rattle.image.proofs.MappingLaws.{common_fits, wide_fits, common}
use Rattle.image.proofs.enough.common_save.Goals as goal

pub returns-then-n-ne0 : goal.returns-then-n-ne0
unfolding ram_banks
returns-then-n-ne0 c = let n = c.args.n in
    let most = c.if-n-gt7.false in
    let least : 1 ≤ n / 1048576 % 16 = omega (arith, c.if-log-eq0.false) in
    let log : n / 1048576 % 8 ≡ n / 1048576 % 16 = omega (arith, most) in
    let rom = rw (c.banks_of.ensures, log) at c.if-banks_of-rom.false in
    let kind = c.common_kind.ensures (not-false _ c.if-not-common_kind.false-raw) in
    let code : n / 131072 % 8 ≡ 3 = omega (arith, c.if-n-ne0.true, c.if-n-ne1.false) in
    common n kind most (common_fits n kind most least rom (four code (omega (arith, c.if-n-ne0-2.false)))) 0x8000 (rw code)

pub returns-then-n-ne0-3 : goal.returns-then-n-ne0-3
unfolding ram_banks
returns-then-n-ne0-3 c = let n = c.args.n in
    let most = c.if-n-gt7.false in
    let least : 1 ≤ n / 1048576 % 16 = omega (arith, c.if-log-eq0.false) in
    let log : n / 1048576 % 8 ≡ n / 1048576 % 16 = omega (arith, most) in
    let rom = rw (c.banks_of.ensures, log) at c.if-banks_of-rom.false in
    let kind = c.common_kind.ensures (not-false _ c.if-not-common_kind.false-raw) in
    let code : n / 131072 % 8 ≡ 2 = omega (arith, c.if-n-ne0.false, c.if-n-ne0-3.true, c.if-n-ne0-4.false) in
    common n kind most (common_fits n kind most least rom (one code (omega (arith, c.if-n-ne0-5.false)) (omega (arith, c.if-n-ne0-5.false)))) 0x2000 (rw code)

pub returns-then-n-ne0-6 : goal.returns-then-n-ne0-6
unfolding ram_banks
returns-then-n-ne0-6 c = let n = c.args.n in
    let most = c.if-n-gt7.false in
    let least : 1 ≤ n / 1048576 % 16 = omega (arith, c.if-log-eq0.false) in
    let log : n / 1048576 % 8 ≡ n / 1048576 % 16 = omega (arith, most) in
    let rom = rw (c.banks_of.ensures, log) at c.if-banks_of-rom.false in
    let kind = c.common_kind.ensures (not-false _ c.if-not-common_kind.false-raw) in
    let code : n / 131072 % 8 ≡ 4 = omega (arith, c.if-n-ne0.false, c.if-n-ne0-3.false, c.if-n-ne0-6.true) in
    let three : n / 16777216 ≡ 3 = c.if-n-ne-MBC5.false in
    let mbc5 : n / 16777216 % 4 ≡ 3 = rw three in
    common n kind most (wide_fits n kind mbc5 most least rom code) 0x20000 (rw code)

pub returns : goal.returns
unfolding ram_banks
returns c = let n = c.args.n in
    let most = c.if-n-gt7.false in
    let least : 1 ≤ n / 1048576 % 16 = omega (arith, c.if-log-eq0.false) in
    let log : n / 1048576 % 8 ≡ n / 1048576 % 16 = omega (arith, most) in
    let rom = rw (c.banks_of.ensures, log) at c.if-banks_of-rom.false in
    let kind = c.common_kind.ensures (not-false _ c.if-not-common_kind.false-raw) in
    let code : n / 131072 % 8 ≡ 0 = omega (arith, c.if-n-ne0.false, c.if-n-ne0-3.false, c.if-n-ne0-6.false) in
    common n kind most (common_fits n kind most least rom (none code (omega (arith, c.if-n-ne0-7.false)) (omega (arith, c.if-n-ne0-7.false)) (omega (arith, c.if-n-ne0-7.false)))) 0 (rw code)
