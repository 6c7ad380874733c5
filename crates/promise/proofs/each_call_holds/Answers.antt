-- The laws are those of proofs/Each.antt, proofs/One.antt and crate dispatch.
use Rattle.dispatch.proofs.Starts.{refused_fresh}
use Rattle.dispatch.proofs.Unchanged.{refused_promise, read_promise}
use Rattle.promise.proofs.Each.{transfer_promise, outside_promise}
use Rattle.promise.proofs.One.{one_outcome}
use Rattle.promise.proofs.each_call_holds.Goals as goal

pub returns : goal.returns
returns c = (refused_promise, refused_fresh, read_promise, transfer_promise, outside_promise, one_outcome)
