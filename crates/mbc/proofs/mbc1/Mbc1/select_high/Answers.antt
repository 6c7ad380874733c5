-- The callees' two equations, one after the other; in banking mode the RAM code is 3, so there are RAM banks.
use Rattle.mbc.proofs.Cartridges.{four_banks}
use native.Mathlib.Omega.{arith}
use Rattle.mbc.proofs.mbc1.Mbc1.select_high.Goals as goal

pub nonzero_rem-result-then-self : goal.nonzero_rem-result-then-self
nonzero_rem-result-then-self c = omega (arith, c.ram_banks.ensures, four_banks _ (c.requires.1 c.if-self.true))
