-- Two digits a turn: what is put is what the text has before i.
use Rattle.lines.proofs.Decoding.{Decoding}
use Rattle.lines.proofs.line.decode.Given as goal

abbrev pub invariant-loop-i : goal.invariant-loop-i
invariant-loop-i l = Decoding l.s l.initial.out l.out l.i
