-- The last bytes of its four.
use mathlib.Core.Path.{◌∙◌}
use lib.ListN.{length, length-drop}
use lib.Seq.{take_all}
use native.Mathlib.Omega.{arith}
use Rattle.savelog.proofs.Laws.{last_bytes}
use Rattle.savelog.proofs.put_number.Goals as goal

pub returns : goal.returns
returns c = (rw c.to_be_bytes-bytes.ensures at c.copy_from_slice.ensures.after) ∙ take_all _ _ (rw length-drop (omega arith)) ∙ last_bytes (length c.args.place.now) c.args.number c.requires
