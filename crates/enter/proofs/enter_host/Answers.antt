-- The eight numbers make the record that they were taken from.
use mathlib.Core.Path.{◌≡◌}
use mir.Syntax.{w32}
use mir.Val.{to_z, of_z}
use Rattle.lcd.specs.declared.Lcd.{Lcd}
use borrow.Author.Rules.{rules}
use Rattle.enter.proofs.enter_host.Goals as goal

pub returns : goal.returns
returns c = let v : Lcd = c.args.lcd in
    let d1 : to_z w32 (of_z w32 v.delay) ≡ v.delay = search (rules, c.struct_told-1.given) in
    let d2 : to_z w32 (of_z w32 v.counter) ≡ v.counter = search (rules, c.struct_told-2-1.given) in
    let d3 : to_z w32 (of_z w32 v.aux) ≡ v.aux = search (rules, c.struct_told-3-1.given) in
    let d4 : to_z w32 (of_z w32 v.window) ≡ v.window = search (rules, c.struct_told-4-1.given) in
    rw (d1, d2, d3, d4) at c.pouch_host.ensures
