-- Bytes stay bytes over each call: of the controller, and FF0F.
use Rattle.std.specs.Prelude.{Option, Some, None}
use mathlib.Core.Bool.{◌&&◌}
use Prim.Native.Nat.{ℕ, ◌%◌, ◌<◌}
use native.Mathlib.Omega.{arith}
use lib.Dec.{lit<}
use Rattle.bit_utils.specs.Bits.{is_set, set_bit}
use Rattle.bit_utils.proofs.Laws.{set_byte, unset_byte}
use Rattle.rules.proofs.Tests.{cond_both}
use Rattle.joypad.specs.Joypad.{Bytes, named, bit_of, after_press, after_release, on_button, press_call, release_call, actions_answer, directions_answer, polled}
use Rattle.joypad.specs.declared.Controller.{Controller}
use Rattle.joypad.specs.declared.Polled.{Polled}
use Rattle.joypad.specs.declared.buttons.Button.{Button}
use Rattle.joypad.specs.declared.buttons.Button.TheVariants.{Up, Down, Left, Right, A, B, Start, Select}

pub bit_below : (b : Button) → bit_of b < 8
unfolding bit_of
bit_below Up = lit< tt
bit_below Down = lit< tt
bit_below Left = lit< tt
bit_below Right = lit< tt
bit_below A = lit< tt
bit_below B = lit< tt
bit_below Start = lit< tt
bit_below Select = lit< tt

on_button_law : (f : Controller → Button → Controller) → ((c : Controller) (b : Button) → Bytes c → Bytes (f c b))
    → (c : Controller) (m : Option Button) → Bytes c → Bytes (on_button f c m).controller
on_button_law f keeps c (Some b) h = keeps c b h
on_button_law f keeps c None h = h

pressed_bytes : (c : Controller) (b : Button) → Bytes c → Bytes (after_press c b)
unfolding after_press
pressed_bytes c b h =
    cond_both Bytes (is_set c.released (bit_of b)) (unset_byte c.released (bit_of b) h.0, h.1) h

released_bytes : (c : Controller) (b : Button) → Bytes c → Bytes (after_release c b)
unfolding after_release
released_bytes c b h = (set_byte c.released (bit_of b) h.0 (bit_below b), h.1)

pub press_bytes : (c : Controller) (n : ℕ) → Bytes c → Bytes (press_call c n).controller
press_bytes c n = on_button_law after_press pressed_bytes c (named n)

pub release_bytes : (c : Controller) (n : ℕ) → Bytes c → Bytes (release_call c n).controller
release_bytes c n = on_button_law after_release released_bytes c (named n)

pub update_bytes : (c : Controller) (control flags : ℕ) → Bytes c → flags < 256
    → Bytes (polled c control flags).controller × ((polled c control flags).flags < 256)
unfolding polled
update_bytes c control flags h l =
    let P : Polled → Type 0 = λ p. Bytes p.controller × (p.flags < 256) in
    let asked : set_bit (flags % 32) 4 < 256 = set_byte (flags % 32) 4 (omega arith) (omega arith) in
    cond_both P (actions_answer control && c.action) ((h.0, h.0), asked)
    (cond_both P (directions_answer control && c.direction) ((h.0, h.0), asked) ((h.0, h.0), l))
