-- The n records so far are sound; each turn passes one more, or stops.
use mathlib.Core.Path.{◌≡◌}
use Prim.Native.Nat.{◌+◌, ◌*◌}
use lib.ListN.{drop}
use Rattle.savelog.specs.Log.{width_of, records_by}
use Rattle.recover_messages.specs.Journal.{sound_first}
use Rattle.recover_messages.proofs.journal.sound_records.Given as goal

abbrev pub invariant-loop-n : goal.invariant-loop-n
invariant-loop-n l = sound_first l.ram (records_by l.form l.part) ≡ l.n + sound_first l.ram (records_by l.form (drop (l.n * width_of l.form) l.part))
