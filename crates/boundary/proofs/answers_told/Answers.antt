-- The theorem is that of proofs/Told.antt.
use Rattle.boundary.proofs.Told as told
use Rattle.boundary.proofs.answers_told.Goals as goal

pub returns : goal.returns
returns c = told.answers_told
