-- With a mark the flags, then the joypad; with none the state, where it is not up to date.
use mathlib.Core.Path.{sym, ◌∙◌}
use lib.ListN.{length-set}
use Rattle.in_place.proofs.Images.{size}
use Rattle.in_place.proofs.Groups.{polled_image}
use Rattle.in_place.proofs.Updates.{unmarked_image, unmarked_same}
use Rattle.in_place.proofs.interrupts.update_joypad.Goals as goal

pub put_joypad-requires : goal.put_joypad-requires
put_joypad-requires c = simp length-set (size _ c.requires)

pub returns-then-is_marked : goal.returns-then-is_marked
returns-then-is_marked c = polled_image _ c.requires c.controller_at-controller.ensures c.update-polled.ensures c.put_joypad.ensures

pub returns-then-controller : goal.returns-then-controller
returns-then-controller c = unmarked_image _ c.requires c.controller_at-controller.ensures (sym c.is_marked.ensures ∙ c.if-is_marked.false) (rw c.set_joypad_state-next.ensures at c.put_joypad-then-controller.ensures)

pub returns-else-controller : goal.returns-else-controller
returns-else-controller c = unmarked_same _ c.requires c.controller_at-controller.ensures (sym c.is_marked.ensures ∙ c.if-is_marked.false) c.if-controller.false
