-- No second outcome: by the law of crate numbers.
use mathlib.Core.Path.{ap, refl, sym, ◌∙◌}
use Rattle.numbers.proofs.One.{only_one, only_told, one_answer}
use Rattle.numbers.specs.Refusal.{number_given}
use Rattle.savelog.specs.Log.{Outcome}
use Rattle.savelog.specs.Laws.{OneRecovery, OneRecovered, OneAppend}
use Rattle.savelog.specs.Convert.{Conversion, Converted, converted_of}
use Rattle.savelog.specs.ConvertLaws.{OneConversion, OneConverted}

pub one_recovery : OneRecovery
one_recovery save log = only_one _ (λ (o : Outcome). o.number) (λ (o : Outcome). o.save) (λ r b. refl) (λ r b. refl) _

pub one_recovered : OneRecovered
one_recovered save log = only_told number_given one_answer.nothing (one_recovery save log)

pub one_append : OneAppend
one_append log used address value p q a b e f = (e.1 ∙ sym f.1, e.0 ∙ sym f.0)

pub one_conversion : OneConversion
one_conversion f t log target =
    only_one _ (λ (o : Conversion). record { number = o.number; len = o.len }) (λ (o : Conversion). o.target) (λ r b. refl) (λ r b. refl) _

pub one_converted : OneConverted
one_converted f t log target =
    only_told converted_of (λ r s e. one_answer.length 0 r s (ap (λ (c : Converted). c.number) e) (ap (λ (c : Converted). c.len) e)) (one_conversion f t log target)
