-- What was put of the rows, as `Shows` says it.
use Rattle.std.proofs.Common.{rules}
use Rattle.recover_text.specs.Rows.{by_row}
use Rattle.recover_text.proofs.Turns.{shows}
use Rattle.recover_text.proofs.Pieces.{puts_whole}
use Rattle.recover_text.proofs.parts.show.Goals as goal

pub returns : goal.returns
returns g c =
    let a = c.args in
    let f = c.fill-next in
    let s = shows (by_row g.L.Lines.lines) g.L.Lines.ROOM a.saves.old.now a.saves.new.now a.from a.out.now f.new.page.out.now f.result f.new.page.end c.requires f.ensures.rows f.ensures.full (puts_whole c.new-page.ensures.empty f.ensures.text) in
    search (rules, s)
