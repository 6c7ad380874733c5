-- One outcome: each crate has shown it of its own calls.
use Rattle.bus.proofs.One.{one_start}
use Rattle.dispatch.proofs.One.{one_performed}
use Rattle.transfer_calls.proofs.One.{one_moved}
use Rattle.write_calls.proofs.One.{one_written}
use Rattle.promise.specs.One.{OneOutcome}

pub one_outcome : OneOutcome
one_outcome = (one_performed, one_written, one_moved, one_start)
