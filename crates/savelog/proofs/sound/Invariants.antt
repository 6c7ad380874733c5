-- What is left of the log is sound exactly if the whole is: each turn takes one record off.
use mathlib.Core.Path.{◌≡◌}
use lib.ListN.{length}
use Rattle.savelog.specs.Log.{width_of, records_by, all_sound}
use Rattle.savelog.proofs.sound.Given as goal

abbrev pub invariant-loop-bytes : goal.invariant-loop-bytes
invariant-loop-bytes l = (l.len ≡ width_of l.form) × (all_sound l.ram (records_by l.form l.log) ≡ all_sound l.ram (records_by l.form l.rest))

abbrev pub decreases-loop-bytes : goal.decreases-loop-bytes
decreases-loop-bytes l = length l.rest
