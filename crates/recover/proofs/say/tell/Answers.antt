-- The text ends on the page.
use mathlib.Core.Path.{sym}
use lib.Seq.{length-take-le}
use Rattle.recover.proofs.say.tell.Goals as goal

pub slice_bounds-print-end : goal.slice_bounds-print-end
slice_bounds-print-end g c = sym (length-take-le _ _ (c.requires.ends _ _ _ c.message.ensures))
