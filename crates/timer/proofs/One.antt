-- No second outcome: by the law of crate numbers.
use Rattle.std.proofs.Common.{refl}
use Rattle.numbers.proofs.One.{only_one, only_told, one_answer}
use Rattle.numbers.specs.Refusal.{number_given}
use Rattle.timer.specs.Promises.{OneUpdate, OneUpdated}
use Rattle.timer.specs.Timer.{Updated}

pub one_update : OneUpdate
one_update t c = only_one _ (λ (u : Updated). u.number) (λ (u : Updated). u.timer) (λ r b. refl) (λ r b. refl) _

pub one_updated : OneUpdated
one_updated t c = only_told number_given one_answer.nothing (one_update t c)
