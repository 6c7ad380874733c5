-- The pieces of the text, one behind the other; the number is of what is kept.
use mathlib.Core.List.{◌++◌}
use mathlib.Core.Path.{ap, ◌∙◌}
use Prim.Native.Nat.{◌/◌}
use native.Mathlib.Omega.{arith}
use Rattle.savelog.specs.Log.{width_of}
use Rattle.recover_text.specs.Text.{counted}
use Rattle.recover_text.proofs.Digits.{counted_length}
use Rattle.recover_text.proofs.Pieces.{puts_as, puts_then, puts_ends}
use Rattle.recover_messages.specs.Words as words
use Rattle.recover_messages.proofs.message.recovered.Goals as goal

pub returns : goal.returns
returns c = (
  puts_as (ap (λ k. words.recovered ++ counted k words.record_noun) (c.records_in-records.ensures.0 ∙ ap (λ k. k / width_of c.args.j.form) c.kept.ensures.0))
      (puts_then c.text.ensures c.counted.ensures),
  omega (arith, puts_ends c.text.ensures, puts_ends c.counted.ensures, counted_length c.records_in-records.result words.record_noun),
)
