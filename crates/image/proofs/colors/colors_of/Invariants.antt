-- The invariant: the colours so far, followed by those of the channels that are left, are all.
use mathlib.Core.Path.{◌≡◌}
use mathlib.Core.List.{◌++◌}
use Prim.Native.Nat.{◌*◌}
use lib.ListN.{length, drop, take}
use Rattle.image.specs.Load.{colors_of}
use Rattle.image.proofs.colors.colors_of.Given as goal

abbrev pub invariant-loop-i : goal.invariant-loop-i
invariant-loop-i l = (length l.c-items ≡ 32) × (colors_of l.channels ≡ take l.i l.c-items ++ colors_of (drop (l.i * 3) l.channels))
