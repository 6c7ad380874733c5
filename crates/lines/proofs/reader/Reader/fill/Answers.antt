-- What is kept moves to the front, and what is read stands behind it.
use Rattle.std.proofs.Common.{◌≡◌, ℕ, ◌+◌, ◌-◌, take, drop, ap, ◌∙◌, arith, length-drop}
use Rattle.std.specs.List.{copy_within}
use Rattle.std.proofs.lemmas.List.Edits.{take-paste}
use Rattle.lines.proofs.Steps.{step_came}
use Rattle.lines.proofs.reader.Reader.fill.Goals as goal

pub returns : goal.returns
returns g c =
    let b = c.args.buf.now in
    let s = c.args.self.now in
    let p = c.requires in
    let r = c.read_on-n.ensures in
    let kept = s.end - s.at in
    let moved : take kept c.copy_within.new.self ≡ take kept (drop s.at b) =
    let z : kept ≡ 0 + kept = omega arith in
    rw c.copy_within.ensures.after (ap (λ (n : ℕ). take n (copy_within b s.at s.end 0)) z ∙ take-paste b 0 (drop s.at b) kept (omega arith) (omega (arith, length-drop s.at b))) in (
      (tt, (omega arith, r.0)),
      step_came b s.at s.end p.0.0 p.0.1 c.read_on-n.new.buf c.read_on-n.result (omega arith) (omega arith) r.0 p.1 (r.1 ∙ moved),
    )
