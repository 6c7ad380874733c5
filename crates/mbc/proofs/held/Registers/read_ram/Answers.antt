-- By the source's case. The address lies in the save, by the law of sources.
use native.Mathlib.Omega.{arith}
use Rattle.mbc.proofs.Sources.{ram_within}
use Rattle.mbc.proofs.held.Registers.read_ram.Goals as goal

pub bounds-save-at : goal.bounds-save-at
bounds-save-at c = let w = ram_within _ _ _ c.requires.0 c.requires.1.0.0 c.requires.1.0.1 in
    omega (arith, rw (← c.ram_source.ensures, c.in-Save.is) at w, c.requires.1.1)
