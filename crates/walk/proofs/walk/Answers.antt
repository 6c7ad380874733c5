-- The loop goes from the beginning: nothing is read, and nothing waits.
use Rattle.std.proofs.Common.{replicate, refl, ap}
use Rattle.lines.specs.Reader.{pending}
use Rattle.lines.specs.declared.reader.Reader.{Reader}
use Rattle.walk.proofs.Walking.{ran_whole}
use Rattle.walk.proofs.walk.Goals as goal

pub returns : goal.returns
returns g c =
    let e = c.new.ensures.0 in
    ran_whole _ _ _ _ _ _ _ _ _ c.new-out.ensures refl (ap (λ (r : Reader). pending (replicate 65536 0) r) e) (ap (λ (r : Reader). r.more) e) c.run-ended.ensures
