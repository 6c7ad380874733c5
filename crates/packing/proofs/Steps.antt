-- One more value in a number, and one taken out of it: a turn of the two loops.
use mathlib.Core.Path.{◌≡◌, sym, ap, ◌∙◌}
use mathlib.Core.List.{List, [], ◌∷◌, ◌++◌, append_assoc}
use Prim.Native.Nat.{ℕ, suc, ◌+◌, ◌*◌, ◌-◌, ◌/◌, ◌%◌, ◌^◌, ◌<◌, ◌≤◌}
use native.Mathlib.Numerals.{add-one}
use native.Mathlib.Nat.{suc-mul, one-mul, mul-le-mul_left}
use native.Mathlib.Omega.{arith}
use lib.Arith.{digits_lt}
use lib.ListN.{length, take, get_or, set, replicate, length-replicate, replicate-append-replicate}
use lib.Seq.{take-suc, take-suc-set, length-take-le}
use lib.Pow.{pow-add, pow_mono, shl_exact}
use Rattle.packing.specs.Packing.{packed, unpacked}
use Rattle.packing.proofs.Laws.{bits_replicate, pack_append}

-- a shifted 1
pub power : (w : ℕ) → w < 64 → 1 * 2 ^ w % 2 ^ 64 ≡ 2 ^ w
power w h = shl_exact 1 w 64 (omega arith) (omega arith) ∙ one-mul (2 ^ w)

pub pack_more : (w k : ℕ) (l : List ℕ) → k < length l
    → packed (replicate (suc k) w) (take (suc k) l) ≡ packed (replicate k w) (take k l) * 2 ^ w + get_or l k 0
pack_more w k l h =
    let t : length (take k l) ≡ length (replicate k w) = length-take-le k l (omega arith) ∙ sym (length-replicate k w) in
    let r : replicate (suc k) w ≡ replicate k w ++ replicate 1 w = ap (λ (n : ℕ). replicate n w) (sym (add-one k)) ∙ sym (replicate-append-replicate k 1 w) in
    let b : w + 0 ≡ w = omega arith in
    rw (r, take-suc l k 0 h, pack_append (replicate k w) (replicate 1 w) (take k l) (get_or l k 0 ∷ []) t, b) (omega arith)

-- the sum does not wrap
module _ (w k n v : ℕ) (hw : w ≤ 8) (hn : n < 2 ^ (8 * k)) (hv : v < 256) where
  pub pack_lt : n * 2 ^ w + v < 2 ^ (8 * suc k)
  pack_lt =
      let p : 2 ^ w ≤ 2 ^ 8 = pow_mono hw in
      let q : n * 2 ^ w ≤ n * 2 ^ 8 = mul-le-mul_left n p in
      let d : n * 2 ^ 8 + v < 2 ^ (8 * k) * 2 ^ 8 = digits_lt hn hv in
      let e : 8 * suc k ≡ 8 * k + 8 = omega arith in
      rw (e, pow-add 2 (8 * k) 8) (omega (arith, q, d))

  pub shifted : k < 8 → n * 2 ^ w % 2 ^ 64 ≡ n * 2 ^ w
  shifted h = shl_exact (8 * k) w 64 hn (omega arith)

-- the first of the values that are left
module _ (w i size b n : ℕ) (l whole : List ℕ) where
  pub unpack_more : w ≤ 8 → length l ≡ size → i < size → b ≡ (size - i) * w
      → take i l ++ unpacked (replicate (size - i) w) n ≡ whole
      → (b - w ≡ (size - (i + 1)) * w) × (take (i + 1) (set l i (n / 2 ^ (b - w) % (1 * 2 ^ w % 2 ^ 64))) ++ unpacked (replicate (size - (i + 1)) w) n ≡ whole)
  unpack_more hw e h s m =
      let j = size - (i + 1) in
      let d : size - i ≡ suc j = omega arith in
      let x = n / 2 ^ (b - w) % 2 ^ w in
      let c : b - w ≡ j * w = let t : b ≡ j * w + w = s ∙ ap (λ (y : ℕ). y * w) d ∙ suc-mul j w in omega arith in
      let u : unpacked (replicate (size - i) w) n ≡ x ∷ unpacked (replicate j w) n = rw (d, bits_replicate j w, c) in
      let t : take (i + 1) (set l i x) ≡ take i l ++ (x ∷ []) = rw (add-one i) (take-suc-set l i x (omega arith)) in
      (c, rw (power w (omega arith), t) (append_assoc (take i l) (x ∷ []) (unpacked (replicate j w) n) ∙ ap (λ (y : List ℕ). take i l ++ y) (sym u) ∙ m))
