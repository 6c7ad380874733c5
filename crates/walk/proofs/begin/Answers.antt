-- The lengths are those that the description asks for.
use Rattle.std.proofs.Common.{ℕ, [], length, replicate, ap, ◌∙◌}
use Rattle.walk.proofs.Fresh.{walk_begins}
use Rattle.bus.specs.Fresh.{Begun}
use Rattle.walk.proofs.begin.Goals as goal

pub returns : goal.returns
returns c =
    let a = c.args in
    let p = c.requires in
    let e =
    c.fresh-start.ensures
    ∙ walk_begins (length a.rom.now) (length a.save.now) (length a.log.now) (length a.sound.now) a.vram.now a.wram.now
    p.0 p.1.0 p.1.1.0 p.1.1.1.0 p.1.1.1.1.0 p.1.1.1.1.1 in (
      c.state_after.ensures [] [] ∙ ap (λ (b : Begun). b.state) e,
      (
        ap (λ (b : Begun). b.vram) e ∙ ap (λ (n : ℕ). replicate n 0) p.1.0,
        ap (λ (b : Begun). b.wram) e ∙ ap (λ (n : ℕ). replicate n 0) p.1.1.0,
      ),
    )
