-- A page of 256 bytes in which some are set.
use mathlib.Core.List.{List}
use mathlib.Core.Path.{◌≡◌, ◌∙◌}
use Prim.Native.Nat.{ℕ, ◌<◌}
use native.Mathlib.Omega.{arith}
use lib.ListN.{length, get_or, set, length-set}
use lib.Seq.{get_or-set_same, get_or-set_other}

module _ (page : List ℕ) where
  pub size : (at v : ℕ) → length page ≡ 256 → length (set page at v) ≡ 256
  size at v l = length-set page at v ∙ l

  pub here : (at v : ℕ) → at < 256 → length page ≡ 256 → get_or (set page at v) at 0 ≡ v
  here at v h l = get_or-set_same page at v 0 (omega arith)

  pub past : (at v : ℕ) {i x : ℕ} → (i ≡ at → ⊥) → get_or page i 0 ≡ x → get_or (set page at v) i 0 ≡ x
  past at v d e = get_or-set_other page at _ v 0 d ∙ e
