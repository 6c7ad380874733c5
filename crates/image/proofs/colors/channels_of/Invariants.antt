-- The invariant: the channels so far, followed by those of the colours that are left, are all.
use mathlib.Core.Path.{◌≡◌}
use mathlib.Core.List.{◌++◌}
use Prim.Native.Nat.{◌*◌}
use lib.ListN.{length, drop, take}
use Rattle.image.specs.Layout.{channels}
use Rattle.image.proofs.colors.channels_of.Given as goal

abbrev pub invariant-loop-i : goal.invariant-loop-i
invariant-loop-i l = (length l.out ≡ 96) × (channels l.c-items ≡ take (l.i * 3) l.out ++ channels (drop l.i l.c-items))
