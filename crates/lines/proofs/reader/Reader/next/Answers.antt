-- The first line feed ends the line; where there is none, more is read, or the input is at its end.
use Rattle.std.proofs.Common.{inl, arith}
use Rattle.lines.proofs.Steps.{step_ended, step_clear, step_inside}
use Rattle.lines.proofs.reader.Reader.next.Goals as goal

pub returns-in-Some : goal.returns-in-Some
returns-in-Some g c =
    let b = c.args.buf.now in
    let s = c.args.self.now in
    let p = c.requires in
    let i = step_inside b s.at s.end p.0 p.1 c.in-Some.size c.in-Some.ensures in (
      ((omega arith, omega arith), (omega arith, omega arith)),
      inl (step_ended b s.at s.end p.0 p.1 c.in-Some.size c.in-Some.ensures s.more),
    )

pub fill-requires : goal.fill-requires
fill-requires g c = let s = c.args.self.now in let p = c.requires in (p, step_clear c.args.buf.now s.at s.end p.0 p.1 c.in_default.ensures)

pub last-requires : goal.last-requires
last-requires g c = let s = c.args.self.now in let p = c.requires in (p, step_clear c.args.buf.now s.at s.end p.0 p.1 c.in_default.ensures)
