-- The low four bits of an address are a field, of it and of what is read.
use mathlib.Core.Path.{◌≡◌, refl, sym, ap, ◌∙◌}
use mathlib.Core.List.{List}
use Prim.Native.Nat.{ℕ, ◌+◌, ◌-◌, ◌*◌, ◌/◌, ◌%◌, ◌^◌, ◌≤◌}
use native.Mathlib.Nat.{div-one}
use native.Mathlib.Omega.{arith}
use lib.ListN.{length}
use lib.Pow.{mod-mod-pow}
use Rattle.places.specs.Places.{field_at}
use Rattle.places.proofs.Laws.{inner_field}
use Rattle.hdma.specs.declared.Hdma.{Hdma}
use Rattle.memory.specs.Ranges.{hdma_in_range}
use Rattle.image.specs.Patches.{SameRange}
use Rattle.image.proofs.fields.steps_at.Goals as goal

same_range : (h k : Hdma) → h.on ≡ k.on → h.source % 16 ≡ k.source % 16 → h.destination % 16 ≡ k.destination % 16 → SameRange h k
unfolding hdma_in_range
same_range h k e f g colour = rw (e, f, g)

-- s is where the address begins, k how many bits are read behind it
low_four : (l : List ℕ) (bit k s : ℕ) → bit + 56 ≤ 8 * length l → k + 4 ≤ 56 → s + 16 ≤ 8 * length l → bit + (56 - (k + 4)) ≡ s + 12
    → field_at l bit 56 / 2 ^ k % 2 ^ 4 ≡ field_at l s 16 % 2 ^ 4
low_four l bit k s i h j e =
    inner_field l bit 56 k 4 h i
    ∙ ap (λ (n : ℕ). field_at l n 4) e
    ∙ sym (inner_field l s 16 0 4 (search arith) j)
    ∙ ap (λ (n : ℕ). n % 2 ^ 4) (div-one (field_at l s 16))

pub returns : goal.returns
returns c = let l = c.args.image.now in
    let size = c.requires in
    same_range _ _ c.flag_at.ensures
    (rw c.field_at-n.ensures.0 (low_four l _ 52 _ (omega arith) (search arith) (omega arith) refl))
    (rw c.field_at-n.ensures.0 (mod-mod-pow (field_at l _ 56 / 2 ^ 36) 12 4 ∙ low_four l _ 36 _ (omega arith) (search arith) (omega arith) refl))
