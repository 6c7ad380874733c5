-- Each number by the field that its arm puts.
use native.Mathlib.Omega.{arith}
use mir.Facts.{to_z-of_z}
use mir.Syntax.{w32}
use mir.Val.{SFits}
use Rattle.entry.specs.declared.HostNumber.TheVariants as one
use Rattle.in_place.proofs.Images.{size}
use Rattle.quick_screen.proofs.Numbers.{number_image}
use borrow.Author.Rules.{rules}
use Rattle.quick_screen.proofs.put_number.Goals as goal

pub put_flag-requires : goal.put_flag-requires
put_flag-requires c = let h = size _ c.requires in search (rules, h)

pub put_field-requires : goal.put_field-requires
put_field-requires c = let h = size _ c.requires in search (rules, h)

pub put_field-requires-in-Signal : goal.put_field-requires-in-Signal
put_field-requires-in-Signal c = let h = size _ c.requires in search (rules, h)

pub put_field-requires-in-Mode : goal.put_field-requires-in-Mode
put_field-requires-in-Mode c = let h = size _ c.requires in search (rules, h)

pub put_signed-requires : goal.put_signed-requires
put_signed-requires c = let h = size _ c.requires in search (rules, h)

pub put_signed-requires-in-Counter : goal.put_signed-requires-in-Counter
put_signed-requires-in-Counter c = let h = size _ c.requires in search (rules, h)

pub put_signed-requires-in-Aux : goal.put_signed-requires-in-Aux
put_signed-requires-in-Aux c = let h = size _ c.requires in search (rules, h)

pub put_signed-requires-in-Window : goal.put_signed-requires-in-Window
put_signed-requires-in-Window c = let h = size _ c.requires in search (rules, h)

pub returns-in-Disabled : goal.returns-in-Disabled
returns-in-Disabled c = number_image _ c.requires (one.Disabled _) c.in-Disabled.is tt c.put_flag.ensures

pub returns-in-Line : goal.returns-in-Line
returns-in-Line c = number_image _ c.requires (one.Line _) c.in-Line.is (omega arith) c.put_field.ensures

pub returns-in-Signal : goal.returns-in-Signal
returns-in-Signal c = number_image _ c.requires (one.Signal _) c.in-Signal.is (omega arith) c.put_field-in-Signal.ensures

pub returns-in-Mode : goal.returns-in-Mode
returns-in-Mode c = number_image _ c.requires (one.Mode _) c.in-Mode.is (omega arith) c.put_field-in-Mode.ensures

pub returns-in-Delay : goal.returns-in-Delay
returns-in-Delay c = let s : SFits w32 c.in-Delay.x = search rules in
    number_image _ c.requires (one.Delay _) c.in-Delay.is s (rw (to_z-of_z s) at c.put_signed.ensures)

pub returns-in-Counter : goal.returns-in-Counter
returns-in-Counter c = let s : SFits w32 c.in-Counter.x = search rules in
    number_image _ c.requires (one.Counter _) c.in-Counter.is s (rw (to_z-of_z s) at c.put_signed-in-Counter.ensures)

pub returns-in-Aux : goal.returns-in-Aux
returns-in-Aux c = let s : SFits w32 c.in-Aux.x = search rules in
    number_image _ c.requires (one.Aux _) c.in-Aux.is s (rw (to_z-of_z s) at c.put_signed-in-Aux.ensures)

pub returns-in-Window : goal.returns-in-Window
returns-in-Window c = let s : SFits w32 c.in-Window.x = search rules in
    number_image _ c.requires (one.Window _) c.in-Window.is s (rw (to_z-of_z s) at c.put_signed-in-Window.ensures)
