-- The pieces of the line, one behind the other.
use mathlib.Core.List.{◌++◌}
use mathlib.Core.Path.{ap}
use Rattle.recover_text.proofs.Pieces.{puts_as, puts_then}
use Rattle.recover_messages.specs.Words as words
use Rattle.recover_messages.specs.Messages.{sized}
use Rattle.recover_messages.proofs.Choice.{expected}
use Rattle.recover_messages.proofs.message.wrong_length.Goals as goal

pub returns : goal.returns
returns c = let a = c.args in
    puts_as (ap (λ e. words.refused4 ++ (a.name.now ++ sized words.has a.len e)) expected) (puts_then c.text.ensures (puts_then c.text-2.ensures c.sized.ensures))
