-- Two digits a turn: what is put is what the text has before i.
use Rattle.lines.specs.Text.{bytes_in}
use Rattle.std.proofs.Common.{◌≡◌, length, sym, ◌∙◌, arith, eq-eqb, ne_eqb}
use Rattle.std.proofs.lemmas.List.{set-get_or}
use Rattle.lines.proofs.Decoding.{decoding_next, decoding_stops, decoding_ends, put_length, put_whole}
use Rattle.lines.proofs.line.decode.Goals as goal

pub returns-in_default : goal.returns-in_default
returns-in_default c =
    let a = c.args in
    let l = c.loop-i in
    let d = bytes_in (length a.out.now) a.s.now in
    let e = decoding_stops a.s.now a.out.now l.out l.i (omega arith) l.invariant (omega arith) (sym c.in_default.is ∙ c.byte.ensures) in
    let k = put_length d a.out.now l.out l.i e (omega arith) l.invariant.1 in (
      sym (ne_eqb (length d) (length a.out.now) (λ (h : length d ≡ length a.out.now). omega (arith, k))),
      rw (set-get_or l.out l.i 0) (put_whole d a.out.now l.out l.i e (omega arith) l.invariant.1),
    )

pub loop-i-preserved : goal.loop-i-preserved
loop-i-preserved c =
    let a = c.args in
    let l = c.loop-i in
    decoding_next a.s.now a.out.now l.out l.i (omega arith) l.invariant (omega arith) _ (sym c.in-Some.is ∙ c.byte.ensures)

pub returns : goal.returns
returns c =
    let a = c.args in
    let l = c.loop-i in
    let d = bytes_in (length a.out.now) a.s.now in
    let e = decoding_ends a.s.now a.out.now l.out l.i l.invariant (omega arith) in
    let k = put_length d a.out.now l.out l.i e (omega arith) l.invariant.1 in
    (sym (eq-eqb (length d) (length a.out.now) (omega (arith, k))), put_whole d a.out.now l.out l.i e (omega arith) l.invariant.1)
