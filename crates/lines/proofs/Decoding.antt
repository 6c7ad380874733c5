-- Bytes are decoded one a turn: those of a text are the ones that were put, and those that its rest has.
use Rattle.std.proofs.Common.{◌≡◌, ℕ, suc, ◌+◌, ◌-◌, ◌*◌, ◌<◌, ◌≤◌, List, [], ◌∷◌, ◌++◌, length, get_or, take, drop, set, Option, Some, None, sym, ap, ◌∙◌, append_assoc, append-nil, add-one, arith, take-append-drop, length-take-le, get_or-drop, drop-drop, take-suc-set, drop-set-lt}
use Rattle.lines.specs.Text.{digit_of, byte_of, and_then, bytes_in, puts}

at_drop : (s : List ℕ) (at : ℕ) → get_or (drop at s) 0 0 ≡ get_or s at 0
at_drop s at = let e : at + 0 ≡ at = omega arith in get_or-drop at s 0 0 ∙ ap (λ (n : ℕ). get_or s n 0) e

-- what the next two characters are
module _ (s : List ℕ) (at n : ℕ) (p : Option ℕ) (e : p ≡ byte_of (digit_of (get_or s at 0)) (digit_of (get_or s (at + 1) 0))) where
  next_pair : bytes_in (suc n) (drop at s) ≡ and_then p (bytes_in n (drop (at + 2) s))
  unfolding bytes_in
  next_pair = rw (at_drop s at, get_or-drop at s 1 0, ← e, drop-drop 2 at s)

-- of the bytes that have room, i are put
abbrev pub Decoding : List ℕ → List ℕ → List ℕ → ℕ → Type 0
Decoding s out₀ out i =
    (bytes_in (length out₀) s ≡ take i out ++ bytes_in (length out₀ - i) (drop (i * 2) s)) × (drop i out ≡ drop i out₀)

module _ (s out₀ out : List ℕ) (i : ℕ) (same : length out ≡ length out₀) (inv : Decoding s out₀ out i) (more : i < length out₀) where
  -- a turn
  pub decoding_next : (b : ℕ) → Some b ≡ byte_of (digit_of (get_or s (i * 2) 0)) (digit_of (get_or s (i * 2 + 1) 0))
      → Decoding s out₀ (set out i b) (i + 1)
  decoding_next b e =
      let n = length out₀ in
      let k : n - i ≡ suc (n - (i + 1)) = omega arith in
      let f : i * 2 + 2 ≡ (i + 1) * 2 = omega arith in (
        inv.0
            ∙ (ap (λ (l : List ℕ). take i out ++ l)
            (ap (λ (m : ℕ). bytes_in m (drop (i * 2) s)) k ∙ (next_pair s (i * 2) (n - (i + 1)) (Some b) e
            ∙ ap (λ (m : ℕ). b ∷ bytes_in (n - (i + 1)) (drop m s)) f))
            ∙ (sym (append_assoc (take i out) (b ∷ []) (bytes_in (n - (i + 1)) (drop ((i + 1) * 2) s)))
            ∙ ap (λ (l : List ℕ). l ++ bytes_in (n - (i + 1)) (drop ((i + 1) * 2) s))
            (sym (ap (λ (m : ℕ). take m (set out i b)) (add-one i) ∙ take-suc-set out i b (omega arith))))),
        rw (drop-set-lt (i + 1) out i b (omega arith)) (sym (drop-drop 1 i out) ∙ (ap (drop 1) inv.1 ∙ drop-drop 1 i out₀)),
      )

  -- two characters that are no byte
  pub decoding_stops : None ≡ byte_of (digit_of (get_or s (i * 2) 0)) (digit_of (get_or s (i * 2 + 1) 0))
      → bytes_in (length out₀) s ≡ take i out
  decoding_stops e =
      let n = length out₀ in
      let k : n - i ≡ suc (n - (i + 1)) = omega arith in
      inv.0
      ∙ (ap (λ (l : List ℕ). take i out ++ l) (ap (λ (m : ℕ). bytes_in m (drop (i * 2) s)) k ∙ next_pair s (i * 2) (n - (i + 1)) None e)
      ∙ append-nil (take i out))

pub decoding_ends : (s out₀ out : List ℕ) (i : ℕ) → Decoding s out₀ out i → length out₀ ≤ i → bytes_in (length out₀) s ≡ take i out
unfolding bytes_in
decoding_ends s out₀ out i inv h =
    let k : length out₀ - i ≡ 0 = omega arith in
    inv.0
    ∙ (ap (λ (m : ℕ). take i out ++ bytes_in m (drop (i * 2) s)) k
    ∙ append-nil (take i out))

-- what was put stands before what was there
module _ (d out₀ out : List ℕ) (i : ℕ) (e : d ≡ take i out) (h : i ≤ length out) (rest : drop i out ≡ drop i out₀) where
  pub put_length : length d ≡ i
  put_length = ap length e ∙ length-take-le i out h

  pub put_whole : out ≡ puts d out₀
  put_whole = rw (put_length, e, ← rest) (sym (take-append-drop i out))
