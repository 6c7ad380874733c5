-- The page dispatch by its parts: what an arm of a `match` tells, FF44, and where the colour part names none of its registers.
use mathlib.Core.Bool.{Bool}
use mathlib.Core.List.{List}
use mathlib.Core.Path.{◌≡◌, subst}
use Prim.Native.Nat.{ℕ, ◌≤◌}
use Rattle.std.proofs.Common.{arith}
use Rattle.std.proofs.lemmas.Grind.{common_steps}
use Rattle.registers.specs.Page.{InPart, shown_as, plain_read}
use Rattle.registers.specs.declared.page.Part.{Part}

pub in_part : {p q : Part} (at : ℕ) → InPart p at → p ≡ q → InPart q at
in_part at h e = subst (λ (x : Part). InPart x at) e h

pub line_shown : (byte : ℕ) (cgb : Bool) (line pad : ℕ) (sound : List ℕ) (at : ℕ) → at ≡ 0x44 → shown_as byte cgb line pad sound at ≡ line
unfolding shown_as
line_shown byte cgb line pad sound at e = rw e

pub colour_shown : (byte : ℕ) (cgb : Bool) (line pad : ℕ) (sound : List ℕ) (at : ℕ)
    → 0x50 ≤ at → (at ≡ 0x68 → ⊥) → (at ≡ 0x69 → ⊥) → (at ≡ 0x6A → ⊥) → (at ≡ 0x6B → ⊥) → (at ≡ 0x70 → ⊥) → (at ≡ 0x76 → ⊥) → (at ≡ 0x77 → ⊥) → shown_as byte cgb line pad sound at ≡ byte
unfolding shown_as plain_read
colour_shown byte cgb line pad sound at p h10 h11 h12 h13 h14 h15 h16 = grind (arith, common_steps)
