-- Playing what is left of the log over the save as it is gives what playing the whole over the first save gives: each turn plays one record.
use mathlib.Core.Bool.{true}
use mathlib.Core.Path.{◌≡◌}
use lib.ListN.{length}
use Rattle.std.specs.Slice.Iter.{chunks_exact_rest, chunks_exact_size}
use Rattle.savelog.specs.Log.{width, records, all_sound, apply_all}
use Rattle.savelog.proofs.apply.Given as goal

abbrev pub invariant-loop-bytes : goal.invariant-loop-bytes
invariant-loop-bytes l = (chunks_exact_size l.bytes-iterator ≡ width)
    × (length l.save ≡ length l.initial.save)
    × (all_sound (length l.initial.save) (records (chunks_exact_rest l.bytes-iterator)) ≡ true)
    × (apply_all l.initial.save (records l.log) ≡ apply_all l.save (records (chunks_exact_rest l.bytes-iterator)))
