-- The theorems are those of proofs/Boundary.antt.
use Rattle.boundary.proofs.Boundary.{entry_runs, entry_promise, entry_begins, entry_resumed}
use Rattle.boundary.proofs.boundary_holds.Goals as goal

pub returns : goal.returns
returns c = (entry_runs, entry_promise, entry_begins, entry_resumed)
