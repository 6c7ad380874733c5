-- The promise is that of proofs/Promise.antt.
use Rattle.promise.proofs.Promise.{promise, resumed}
use Rattle.promise.proofs.Independent.{independent}
use Rattle.promise.proofs.Examples.{example, wide_example, room_example}
use Rattle.promise.proofs.Begins.{begins}
use Rattle.promise.proofs.promise_holds.Goals as goal

pub returns : goal.returns
returns c = (promise, begins, independent, resumed, example, wide_example, room_example)
