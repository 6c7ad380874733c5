-- The pieces of the line, one behind the other.
use Rattle.recover_text.proofs.Pieces.{puts_as, puts_then}
use Rattle.recover_text.proofs.speak.byte_line.Goals as goal

pub returns : goal.returns
returns c =
    puts_then c.head.ensures.0
    (puts_then (puts_as c.pair.ensures c.text.ensures)
    (puts_then c.text-2.ensures (puts_then (puts_as c.pair-2.ensures c.text-3.ensures) c.byte.ensures)))
