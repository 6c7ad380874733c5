-- The walk begins with the fresh bus and zeros, and with the ROM of the rule.
use Rattle.std.proofs.Common.{refl, arith}
use Rattle.walk.proofs.Walking.{worlds_same}
use Rattle.walk.proofs.main.Goals as goal

pub walk-requires : goal.walk-requires
walk-requires c =
    let e = c.begin-memory.ensures in (
      worlds_same _ _ e.0 e.1.0 e.1.1,
      (refl, (omega arith, λ n h. c.fill_rom.ensures n (omega (arith, h)))),
    )
