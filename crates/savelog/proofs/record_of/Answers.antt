-- The fields of the number that the bytes make, by the form.
use mathlib.Core.Path.{◌≡◌, ap, ◌∙◌}
use Rattle.savelog.specs.Log.{fields_of, number_from}
use Rattle.savelog.proofs.Laws.{three_bytes, four_bytes}
use Rattle.savelog.proofs.record_of.Goals as goal
use Rattle.savelog.proofs.record_of.Goals.{in-Three, in-Four}

pub returns : goal.returns
returns c =
    let made : c.match-form.number ≡ number_from 0 c.args.bytes.now =
    elim c.match-form.branch [
      | in-Three w ↦ w.number-is ∙ w.from_be_bytes-number.ensures ∙ three_bytes c.args.bytes.now (rw w.in-Three.is at c.requires)
      | in-Four w ↦ w.number-is ∙ w.from_be_bytes-number-in-Four.ensures ∙ four_bytes c.args.bytes.now (rw w.in-Four.is at c.requires)
    ]
    in c.fields.ensures ∙ ap (fields_of c.args.form) made
