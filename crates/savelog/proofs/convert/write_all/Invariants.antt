-- The target so far, with what the rest of the source will put, is what the whole source puts: each turn writes one record.
use mathlib.Core.Bool.{true}
use mathlib.Core.Path.{◌≡◌}
use mathlib.Core.List.{◌++◌}
use Prim.Native.Nat.{◌+◌}
use lib.ListN.{length, drop}
use Rattle.std.specs.Slice.Iter.{chunks_exact_rest, chunks_exact_size}
use Rattle.savelog.specs.Log.{width_of, end_of, records_by, all_sound}
use Rattle.savelog.specs.Convert.{bytes_by, length_by}
use Rattle.savelog.proofs.Converts.{so_far}
use Rattle.savelog.proofs.convert.write_all.Given as goal

abbrev pub invariant-loop-bytes : goal.invariant-loop-bytes
invariant-loop-bytes l = (chunks_exact_size l.bytes-iterator ≡ width_of l.from)
    × (l.more ≡ width_of l.to)
    × (length l.target ≡ length l.initial.target)
    × (l.o + length_by l.from l.to (length (chunks_exact_rest l.bytes-iterator)) ≡ length_by l.from l.to (length l.source))
    × (all_sound (end_of l.to) (records_by l.from (chunks_exact_rest l.bytes-iterator)) ≡ true)
    × (bytes_by l.to (records_by l.from l.source) ++ drop (length_by l.from l.to (length l.source)) l.initial.target
    ≡ so_far l.from l.to (chunks_exact_rest l.bytes-iterator) l.o (length_by l.from l.to (length l.source)) l.target)
