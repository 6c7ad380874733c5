-- The texts stand in the two arrays; the test on them is that of the definition.
use mathlib.Core.Path.{ap}
use native.Mathlib.Omega.{arith}
use lib.ListN.{length}
use Rattle.recover_text.specs.Speak.{byte_lines}
use Rattle.recover_text.proofs.Hearing.{words_length, text_line_length, by_bytes, by_text}
use Rattle.recover_text.proofs.Pieces.{put_read, puts_as, puts_from, puts_to, puts_then, puts_ends, puts_length}
use Rattle.recover_text.proofs.speak.HeardLines.row.Goals as goal
use Rattle.recover_text.proofs.speak.HeardLines.row.Goals.{then-not-every, else-not-every}

pub text_line-requires : goal.text_line-requires
text_line-requires c = let a = c.args in (
  omega (arith, c.requires),
  omega (arith, ap length (put_read c.words-n.ensures), words_length 0 a.old.now, c.requires),
  omega (arith, ap length (put_read c.words-m.ensures), words_length 0 a.new.now, c.requires),
  omega (arith, c.requires),
)

pub byte_lines-requires : goal.byte_lines-requires
byte_lines-requires c = let a = c.args in
    let l = text_line_length a.at _ _ a.old.now a.new.now (put_read c.words-n.ensures) (put_read c.words-m.ensures) (omega (arith, c.requires)) (omega (arith, c.requires)) in
    elim c.if-not-every.branch [
      | then-not-every w ↦ let q = puts_to w.page-is w.text_line.ensures in omega (arith, c.requires, puts_ends q, puts_length q, l)
      | else-not-every w ↦ rw w.page-is (omega (arith, c.requires))
    ]

pub returns : goal.returns
returns c = let a = c.args in
    let e = put_read c.words-n.ensures in
    let f = put_read c.words-m.ensures in
    elim c.if-not-every.branch [
      | then-not-every w ↦
          puts_as (by_text a.at a.old.now a.new.now _ _ _ e f c.eq-every.ensures w.if-not-every.true)
          (puts_then (puts_to w.page-is w.text_line.ensures) (puts_as (ap (λ v. byte_lines v a.at a.old.now a.new.now) w.if-not-every.true) c.byte_lines.ensures))
      | else-not-every w ↦
          puts_as (by_bytes a.at a.old.now a.new.now _ _ _ e f c.eq-every.ensures w.if-not-every.false)
          (puts_from w.page-is (puts_as (ap (λ v. byte_lines v a.at a.old.now a.new.now) w.if-not-every.false) c.byte_lines.ensures))
    ]
