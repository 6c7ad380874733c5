-- Nothing is shifted out.
use native.Mathlib.Omega.{arith}
use Rattle.places.specs.Places.{replaced}
use Rattle.packing.proofs.Steps.{power}
use Rattle.places.proofs.Laws.{first_shift, sum_fits, second_shift, replaced_fits}
use Rattle.places.proofs.replaced.Goals as goal

pub overflow_add-result : goal.overflow_add-result
overflow_add-result c = rw (first_shift c.args.n c.args.shift c.args.width c.args.value (omega arith) (omega arith) (omega arith)) (record { fits = sum_fits c.args.n c.args.shift c.args.width c.args.value (omega arith) (omega arith) (omega arith) })

pub overflow_add-result-2 : goal.overflow_add-result-2
overflow_add-result-2 c = rw (first_shift c.args.n c.args.shift c.args.width c.args.value (omega arith) (omega arith) (omega arith), second_shift c.args.n c.args.shift c.args.width c.args.value (omega arith) (omega arith) (omega arith), power c.args.shift (omega arith)) (record { fits = replaced_fits c.args.n c.args.shift c.args.width c.args.value (omega arith) (omega arith) (omega arith) })

pub returns : goal.returns
unfolding replaced
returns c = rw (first_shift c.args.n c.args.shift c.args.width c.args.value (omega arith) (omega arith) (omega arith), second_shift c.args.n c.args.shift c.args.width c.args.value (omega arith) (omega arith) (omega arith), power c.args.shift (omega arith))
