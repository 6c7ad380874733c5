-- The copy is the save at entry.
use native.Mathlib.Omega.{arith}
use Rattle.recover.proofs.Saves.{save_rows}
use Rattle.recover.proofs.show.changes.Goals as goal

pub copied-requires : goal.copied-requires
copied-requires g c = omega (arith, (save_rows _ c.requires.0).1, c.requires.1)
