-- No second outcome: by the law of crate numbers.
use mathlib.Core.Path.{refl}
use Rattle.numbers.proofs.One.{only_one, only_told, one_answer}
use Rattle.numbers.specs.Refusal.{number_given}
use Rattle.image.specs.Laws.{OneStore, OneStored}
use Rattle.image.specs.Load.{Stored}

pub one_store : OneStore
one_store m l = only_one _ (λ (s : Stored). s.number) (λ (s : Stored). s.bytes) (λ r b. refl) (λ r b. refl) _

pub one_stored : OneStored
one_stored m l = only_told number_given one_answer.nothing (one_store m l)
