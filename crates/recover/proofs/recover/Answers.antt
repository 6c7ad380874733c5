-- The copy of the save has room for it, and both have whole rows.
use mathlib.Core.Path.{◌≡◌, sym}
use native.Mathlib.Omega.{arith}
use lib.ListN.{length, take}
use lib.Seq.{length-take-le}
use Rattle.recover.proofs.Saves.{rows_of, save_rows}
use Rattle.recover.proofs.recover.Goals as goal

pub invariant_of-saves : goal.invariant_of-saves
invariant_of-saves g c = let s = c.changes.new.save in let o = c.changes.new.old in let k = c.changes.auto in let m : length (take (length s) o) ≡ length s = length-take-le (length s) o (omega (arith, (save_rows _ c.requires.0).1, c.requires.1, k.save, k.old)) in record { pair = rows_of (take (length s) o) s (rw (m, k.save) c.requires.0) (sym m) }
