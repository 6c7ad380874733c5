-- In colour what the writer leaves, else the byte is stored.
use mathlib.Core.Path.{refl, ap}
use Prim.Native.Nat.{ℕ, ◌+◌}
use Rattle.in_place.proofs.Images.{state, in_colour_law}
use Rattle.in_place.proofs.palettes.put_palette.Goals as goal

pub returns-then-is_colour : goal.returns-then-is_colour
returns-then-is_colour g c = λ n p.
    in_colour_law (state _ c.requires.held) _ c.args.value _ c.is_colour.ensures c.if-is_colour.true
    (p _ _ _ _ refl (ap (λ (x : ℕ). 256 + x) c.at.ensures.0) c.first_of.ensures c.put.ensures)
