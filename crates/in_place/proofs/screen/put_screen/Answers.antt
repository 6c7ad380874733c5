-- Four bytes of the page put, then the group.
use native.Mathlib.Omega.{arith}
use lib.ListN.{length-set}
use Rattle.in_place.proofs.Images.{size}
use Rattle.in_place.proofs.Groups.{screen_image}
use borrow.Author.Rules.{rules}
use Rattle.in_place.proofs.screen.put_screen.Goals as goal

pub bounds-image-321 : goal.bounds-image-321
bounds-image-321 c = let h = size _ c.requires in search rules

pub bounds-image-325 : goal.bounds-image-325
bounds-image-325 c = let h = size _ c.requires in search rules

pub bounds-image-271 : goal.bounds-image-271
bounds-image-271 c = let h = size _ c.requires in search rules

pub put_lcd-requires : goal.put_lcd-requires
put_lcd-requires c = simp length-set (size _ c.requires)

pub returns : goal.returns
returns c = screen_image _ c.requires c.args.screen (record { line = omega arith; signal = omega arith; mode = omega arith; control = omega arith; status = omega arith; compare = omega arith; wy = omega arith; flags = omega arith }) (record { delay = search rules; counter = search rules; aux = search rules; window = search rules }) c.put_lcd.ensures
