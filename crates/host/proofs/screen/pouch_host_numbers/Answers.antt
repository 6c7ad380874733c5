-- The numbers, one by one.
use mathlib.Core.Path.{◌≡◌}
use mir.Syntax.{w32}
use mir.Val.{of_z, to_z}
use borrow.Author.Rules.{rules}
use Rattle.memory.specs.Start.{zeroed}
use Rattle.std.specs.Result.{result_unwrap_or}
use Rattle.host.proofs.Shown.{flag_byte}
use Rattle.host.proofs.screen.pouch_host_numbers.Goals as goal

pub returns : goal.returns
unfolding zeroed
returns c = let v = c.unwrap_or-lcd.result in
    let d1 : to_z w32 (of_z w32 v.delay) ≡ v.delay = search (rules, c.struct_told-1.given) in
    let d2 : to_z w32 (of_z w32 v.counter) ≡ v.counter = search (rules, c.struct_told-2-1.given) in
    let d3 : to_z w32 (of_z w32 v.aux) ≡ v.aux = search (rules, c.struct_told-3-1.given) in
    let d4 : to_z w32 (of_z w32 v.window) ≡ v.window = search (rules, c.struct_told-4-1.given) in
    let u : v ≡ result_unwrap_or c.host_numbers-shown.result zeroed.core.lcd = c.unwrap_or-lcd.ensures in
    rw (d1, d2, d3, d4, c.from.ensures, c.number_given.ensures, u, flag_byte _) c.host_numbers-shown.ensures
