-- The loop goes from its first place to where it stands, by one step a turn.
use Rattle.std.proofs.Common.{true, false, refl, arith}
use Rattle.commands.specs.Walk.{text_of}
use Rattle.lines.specs.Reader.{pending}
use Rattle.memory.specs.World.{world, fixed}
use Rattle.walk.proofs.Walking.{ran_none, ran_next, ended}
use Rattle.walk.proofs.run.Goals as goal

pub loop-init : goal.loop-init
loop-init g c =
    let a = c.args in
    let s = a.state.now in (
      (c.requires.0, c.requires.1.0),
      ran_none (fixed a.rom.now a.sound.now) (world s.memory a.vram.now a.wram.now a.save.now a.log.now) (text_of a.out.now) s.long
          (pending a.buf.now s.reader) s.reader.more true false refl,
    )

pub returns-in_err-step : goal.returns-in_err-step
returns-in_err-step g c =
    let i = c.loop.invariant in
    let w = c.shown-written in
    rw (ended _ _ c.from_residual.ensures.1)
    (ran_next _ _ _ _ _ _ _ _ _ _ _ (text_of c.loop.out) (text_of w.new.out) true false _ _ w.ensures.1.0 w.ensures.1.1 i.1 c.in_err-step.ensures.1 (omega (arith, i, c.step.auto)))

pub loop-preserved : goal.loop-preserved
loop-preserved g c =
    let i = c.loop.invariant in
    let w = c.shown-written in (
      (c.step.ensures.0, omega (arith, i, c.step.auto)),
      (ran_next _ _ _ _ _ _ _ _ _ _ _ (text_of c.loop.out) (text_of w.new.out) true false _ _ w.ensures.1.0 w.ensures.1.1 i.1 c.in_ok-step.ensures.1 (omega (arith, i, c.step.auto))),
    )
