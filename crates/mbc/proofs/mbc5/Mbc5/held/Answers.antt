-- Each branch decides a test of `held5`.
use mathlib.Core.Path.{◌∙◌}
use native.Mathlib.Omega.{arith}
use borrow.Author.Tests.{lt-ltb, le-ltb}
use Rattle.mbc.specs.Mbc.{ram_banks}
use Rattle.mbc.proofs.Cases.Mbc5Laws.{below_fits, start_fits}
use Rattle.mbc.proofs.Cartridges.{ram_there}
use Rattle.mbc.proofs.mbc5.Mbc5.held.Goals as goal

pub returns-then-self-ram_banks : goal.returns-then-self-ram_banks
returns-then-self-ram_banks c = let b = c.ram_banks.ensures in
    let code = c.args.cartridge.code in
    let some = ram_there code ∙ lt-ltb 0 (ram_banks code) (omega (arith, c.if-self-ram_banks.true, b)) in
    rw (lt-ltb _ _ c.if-self-cartridge.true, lt-ltb _ _ c.if-self-ram_banks.true, ← b, below_fits _ _ c.if-self-ram_banks.true, some)

pub returns-then-self-eq0 : goal.returns-then-self-eq0
returns-then-self-eq0 c = let b = c.ram_banks.ensures in
    let code = c.args.cartridge.code in
    let none = ram_there code ∙ le-ltb 0 (ram_banks code) (omega (arith, b, c.if-self-ram_banks.false, c.if-self-eq0.true)) in
    let fits = start_fits c.ram_banks.result in
    rw (lt-ltb _ _ c.if-self-cartridge.true, ← b, c.if-self-eq0.true, fits, none)
