-- Bytes in a row: how many they are, one more of them at the end, and that they are what they are read as.
use mathlib.Core.List.{List, ◌∷◌, ◌++◌}
use mathlib.Core.Path.{◌≡◌, refl, ap, ◌∙◌}
use Prim.Native.Nat.{ℕ, zero, suc, ◌+◌, ◌<◌}
use native.Mathlib.Omega.{arith}
use lib.ListN.{length}
use Rattle.corners.specs.Rows.{bytes}

pub bytes_length : (f : ℕ → ℕ) (at n : ℕ) → length (bytes f at n) ≡ n
unfolding bytes
bytes_length f at zero = refl
bytes_length f at (suc n) = ap suc (bytes_length f (suc at) n)

pub bytes_more : (f : ℕ → ℕ) (at n : ℕ) (l : List ℕ) → bytes f at (suc n) ++ l ≡ bytes f at n ++ f (at + n) ∷ l
unfolding bytes
bytes_more f at zero l = let e : at ≡ at + 0 = omega arith in ap (λ (k : ℕ). f k ∷ l) e
bytes_more f at (suc n) l =
    let e : suc at + n ≡ at + suc n = omega arith in
    ap (λ (r : List ℕ). f at ∷ r) (bytes_more f (suc at) n l ∙ ap (λ (k : ℕ). bytes f (suc at) n ++ f k ∷ l) e)

pub bytes_same : (f g : ℕ → ℕ) (at n : ℕ) → ((i : ℕ) → i < at + n → f i ≡ g i) → bytes f at n ≡ bytes g at n
unfolding bytes
bytes_same f g at zero h = refl
bytes_same f g at (suc n) h =
    ap (λ (b : ℕ). b ∷ bytes f (suc at) n) (h at (omega arith))
    ∙ ap (λ (r : List ℕ). g at ∷ r) (bytes_same f g (suc at) n (λ i l. h i (omega arith)))
