-- The law is that of proofs/One.antt.
use Rattle.numbers.proofs.One as one
use Rattle.numbers.proofs.one_answer.Goals as goal

pub returns : goal.returns
returns c = one.one_answer
