-- The words of the bytes so far are put; each turn takes one byte more.
use mathlib.Core.Path.{◌≡◌}
use lib.ListN.{take}
use Rattle.recover_text.specs.Speak.{words}
use Rattle.recover_text.specs.Place.{place_number}
use Rattle.recover_text.specs.Page.{Puts}
use Rattle.recover_text.proofs.Hearing.{place_after}
use Rattle.recover_text.proofs.speak.words.Given as goal

abbrev pub invariant-loop-b : goal.invariant-loop-b
invariant-loop-b l = Puts l.initial.page (words 0 (take l.b-index l.row)) l.page × (place_number l.place ≡ place_after 0 (take l.b-index l.row))
