-- Fields put in a layout that fills the bytes to their end: each is set in the list of the fields, and what stands before the layout stays.
use mathlib.Core.Path.{◌≡◌, refl, sym, ap, subst, ◌∙◌}
use mathlib.Core.List.{List, [], ◌∷◌, ◌++◌}
use Prim.Native.Nat.{ℕ, zero, suc, ◌+◌, ◌-◌, ◌*◌, ◌/◌, ◌%◌, ◌^◌, ◌<◌, ◌≤◌}
use native.Mathlib.Nat.{mod-lt, mod-one, add_comm, mul_assoc, add-mul}
use native.Mathlib.Omega.{arith}
use lib.ListN.{length, take, drop, get_or, set, length-replicate, replicate-append-replicate}
use lib.Seq.{take_at}
use lib.Pow.{pow_pos, pow-add, high, low, split, mod-mod-pow, mod-pow-add, shr-shr}
use Rattle.packing.specs.Packing.{Below, Fit, bits, packed, unpacked, repacked, eights}
use Rattle.packing.proofs.Laws.{below_fit, fit_below, unpack_fit, unpack_pack, unpack_length, unpack_mod, unpack_append, pack_unpack, pack_unpack_mod}
use Rattle.places.specs.Places.{number, behind, field_at, fields_from, replaced, put_at, put_fields, FitAll, set_all}
use Rattle.places.proofs.Laws.{listed, bits_eights, number_lt, above_mod, replaced_above, replaced_lt, replaced_set}

-- bytes are those of their number
pub bytes_back : (l : List ℕ) → Below 256 l → unpacked (eights (length l)) (number l) ≡ l
unfolding number
bytes_back l b = unpack_pack (eights (length l)) l (below_fit (length l) 8 l refl b)

module _ (l : List ℕ) (bit w v : ℕ) where
  pub put_length : length (put_at l bit w v) ≡ length l
  unfolding put_at
  put_length = unpack_length (eights (length l)) (replaced (number l) (behind l bit w) w v) ∙ length-replicate (length l) 8

  pub put_below : Below 256 (put_at l bit w v)
  unfolding put_at
  put_below = fit_below (length l) 8 (put_at l bit w v) (omega arith) (unpack_fit (eights (length l)) (replaced (number l) (behind l bit w) w v))

  pub put_number : Below 256 l → bit + w ≤ 8 * length l → v < 2 ^ w → number (put_at l bit w v) ≡ replaced (number l) (behind l bit w) w v
  unfolding number put_at
  put_number b h hv =
      let n = replaced (number l) (behind l bit w) w v in
      let k : n < 2 ^ (8 * length l) = replaced_lt (number l) (behind l bit w) w v (8 * length l) (number_lt l b) (omega arith) hv in
      ap (λ (i : ℕ). packed (eights i) (put_at l bit w v)) put_length
      ∙ pack_unpack (eights (length l)) n (subst (λ (x : ℕ). n < 2 ^ x) (sym (bits_eights (length l))) k)

pub puts_length : (bit : ℕ) (ws : List ℕ) (ps : List (ℕ × ℕ)) (l : List ℕ) → length (put_fields bit ws ps l) ≡ length l
puts_length bit ws [] l = refl
puts_length bit ws (p ∷ ps) l =
    let at = bit + bits (take p.0 ws) in
    let w = get_or ws p.0 0 in
    puts_length bit ws ps (put_at l at w p.1) ∙ put_length l at w p.1

-- The fields of a layout

around : (ws : List ℕ) (k : ℕ) → bits (take k ws) + (get_or ws k 0 + bits (drop (suc k) ws)) ≡ bits ws
around [] zero = refl
around [] (suc k) = refl
around (w ∷ ws) zero = omega arith
around (w ∷ ws) (suc k) = let h = around ws k in omega arith

-- what fields put leave, of l before and l' after
pub record Put (ws l l' fs : List ℕ) : Type 0 where
  pub size : length l' ≡ length l
  pub below : Below 256 l'
  pub fields : unpacked ws (number l') ≡ fs
  pub before : number l' / 2 ^ bits ws ≡ number l / 2 ^ bits ws

module _ (bit : ℕ) (ws : List ℕ) where
  put_one : (l : List ℕ) (k v : ℕ) → Below 256 l → bit + bits ws ≡ 8 * length l → v < 2 ^ get_or ws k 0
      → Put ws l (put_at l (bit + bits (take k ws)) (get_or ws k 0) v) (set (unpacked ws (number l)) k v)
  put_one l k v b h hv =
      let at = bit + bits (take k ws) in
      let w = get_or ws k 0 in
      let a = around ws k in
      let e : behind l at w ≡ bits (drop (suc k) ws) = omega arith in
      let n : number (put_at l at w v) ≡ replaced (number l) (bits (drop (suc k) ws)) w v =
      put_number l at w v b (omega arith) hv ∙ ap (λ (i : ℕ). replaced (number l) i w v) e in
      record {
        size = put_length l at w v;
        below = put_below l at w v;
        fields = ap (unpacked ws) n ∙ replaced_set ws (number l) k v hv;
        before = ap (λ (i : ℕ). i / 2 ^ bits ws) n ∙ replaced_above (number l) (bits (drop (suc k) ws)) w v (bits ws) (omega arith) hv;
      }

  pub put_fields_law : (l : List ℕ) (ps : List (ℕ × ℕ)) → Below 256 l → bit + bits ws ≡ 8 * length l → FitAll ws ps
      → Put ws l (put_fields bit ws ps l) (set_all ps (unpacked ws (number l)))
  put_fields_law l [] b h f = record { size = refl; below = b; fields = refl; before = refl }
  put_fields_law l (p ∷ ps) b h f =
      let o = put_one l p.0 p.1 b h f.0 in
      let q = put_fields_law (put_at l (bit + bits (take p.0 ws)) (get_or ws p.0 0) p.1) ps o.below (h ∙ ap (λ (i : ℕ). 8 * i) (sym o.size)) f.1 in
      record {
        size = q.size ∙ o.size;
        below = q.below;
        fields = q.fields ∙ ap (set_all ps) o.fields;
        before = q.before ∙ o.before;
      }

-- A layout of j bytes behind k: the first k stay, and the others are those of the fields

split_bytes : (l : List ℕ) (k j : ℕ) → Below 256 l → length l ≡ k + j
    → l ≡ unpacked (eights k) (number l / 2 ^ (8 * j)) ++ unpacked (eights j) (number l)
split_bytes l k j b e =
    let r : eights k ++ eights j ≡ eights (k + j) = replicate-append-replicate k j 8 in
    sym (bytes_back l b) ∙ ap (λ (i : ℕ). unpacked (eights i) (number l)) e ∙ ap (λ (ws : List ℕ). unpacked ws (number l)) (sym r)
    ∙ unpack_append (eights k) (eights j) (number l)
    ∙ ap (λ (i : ℕ). unpacked (eights k) (number l / 2 ^ i) ++ unpacked (eights j) (number l)) (bits_eights j)

front_bytes : (l : List ℕ) (k j : ℕ) → Below 256 l → length l ≡ k + j → unpacked (eights k) (number l / 2 ^ (8 * j)) ≡ take k l
front_bytes l k j b e =
    let x = unpacked (eights k) (number l / 2 ^ (8 * j)) in
    sym (ap (take k) (split_bytes l k j b e) ∙ take_at x (unpacked (eights j) (number l)) k (unpack_length (eights k) (number l / 2 ^ (8 * j)) ∙ length-replicate k 8))

pub put_bytes : (ws l l' fs : List ℕ) (k j : ℕ) → Put ws l l' fs → Below 256 l → length l ≡ k + j → bits ws ≡ 8 * j → l' ≡ take k l ++ repacked ws (eights j) fs
unfolding repacked
put_bytes ws l l' fs k j p b e h =
    let n = number l' in
    let f : n / 2 ^ (8 * j) ≡ number l / 2 ^ (8 * j) = rw h at p.before in
    let a : packed ws fs ≡ n % 2 ^ (8 * j) = ap (packed ws) (sym p.fields) ∙ pack_unpack_mod ws n ∙ ap (λ (i : ℕ). n % 2 ^ i) h in
    let c : unpacked (eights j) (n % 2 ^ (8 * j)) ≡ unpacked (eights j) n = rw (bits_eights j) at (unpack_mod (eights j) n) in
    split_bytes l' k j p.below (p.size ∙ e)
    ∙ ap (λ (i : ℕ). unpacked (eights k) i ++ unpacked (eights j) n) f
    ∙ ap (λ (x : List ℕ). x ++ unpacked (eights j) n) (front_bytes l k j b e)
    ∙ ap (λ (x : List ℕ). take k l ++ x) (sym (ap (unpacked (eights j)) a ∙ c))

-- Two fields side by side are one: the first is above

replaced_twice : (n b B w v p : ℕ) → replaced (replaced n (b + B) w v) b B p ≡ replaced n b (w + B) (v * 2 ^ B + p)
unfolding replaced
replaced_twice n b B w v p =
    let e : b + B ≡ B + b = omega arith in
    let f : w + (B + b) ≡ w + B + b = omega arith in
    let u = n / 2 ^ (w + B + b) in
    let m = (u * 2 ^ w + v) * 2 ^ (B + b) + n % 2 ^ (B + b) in
    let c : replaced n (b + B) w v ≡ m = rw (e, f) in
    let a : m / 2 ^ (B + b) ≡ u * 2 ^ w + v = high (u * 2 ^ w + v) (B + b) (mod-lt n (pow_pos (B + b))) in
    let d : m % 2 ^ b ≡ n % 2 ^ b = above_mod (u * 2 ^ w + v) b (n % 2 ^ (B + b)) B ∙ mod-mod-pow n B b in
    let g : (u * 2 ^ w + v) * 2 ^ B + p ≡ u * 2 ^ (w + B) + (v * 2 ^ B + p) =
    rw (add-mul (u * 2 ^ w) v (2 ^ B), mul_assoc u (2 ^ w) (2 ^ B), ← pow-add 2 w B) (omega arith) in
    ap (λ (x : ℕ). replaced x b B p) c
    ∙ ap (λ (x : ℕ). (x * 2 ^ B + p) * 2 ^ b + m % 2 ^ b) a
    ∙ ap (λ (x : ℕ). ((u * 2 ^ w + v) * 2 ^ B + p) * 2 ^ b + x) d
    ∙ ap (λ (x : ℕ). x * 2 ^ b + n % 2 ^ b) g

pub read_halves : (l : List ℕ) (bit : ℕ) → bit + 64 ≤ 8 * length l → field_at l bit 32 * 2 ^ 32 + field_at l (bit + 32) 32 ≡ field_at l bit 64
unfolding field_at
read_halves l bit h =
    let b = behind l bit 64 in
    let e : behind l bit 32 ≡ b + 32 = omega arith in
    let f : behind l (bit + 32) 32 ≡ b = omega arith in
    rw (e, f, ← shr-shr (number l) b 32) (sym (mod-pow-add (number l / 2 ^ b) 32 32))

pub put_joined : (l : List ℕ) → Below 256 l → (bit v w hi lo : ℕ) → bit + (v + w) ≤ 8 * length l → hi < 2 ^ v
    → put_at (put_at l bit v hi) (bit + v) w lo ≡ put_at l bit (v + w) (hi * 2 ^ w + lo)
unfolding put_at
put_joined l b bit v w hi lo h k =
    let l' = put_at l bit v hi in
    let d = behind l bit (v + w) in
    let e : behind l bit v ≡ d + w = omega arith in
    let f : 8 * length l - (bit + v + w) ≡ d = omega arith in
    ap (λ (i : ℕ). unpacked (eights i) (replaced (number l') (8 * i - (bit + v + w)) w lo)) (put_length l bit v hi)
    ∙ ap (λ (i : ℕ). unpacked (eights (length l)) (replaced (number l') i w lo)) f
    ∙ ap (λ (i : ℕ). unpacked (eights (length l)) (replaced i d w lo)) (put_number l bit v hi b (omega arith) k)
    ∙ ap (λ (i : ℕ). unpacked (eights (length l)) (replaced (replaced (number l) i v hi) d w lo)) e
    ∙ ap (unpacked (eights (length l))) (replaced_twice (number l) d w v hi lo)

-- A field put twice is as it is put last

replaced_over : (n b w u v : ℕ) → u < 2 ^ w → replaced (replaced n b w u) b w v ≡ replaced n b w v
unfolding replaced
replaced_over n b w u v h =
    let a : replaced n b w u / 2 ^ (w + b) ≡ n / 2 ^ (w + b) = replaced_above n b w u (w + b) (omega arith) h in
    let c : replaced n b w u % 2 ^ b ≡ n % 2 ^ b = low (n / 2 ^ (w + b) * 2 ^ w + u) b (mod-lt n (pow_pos b)) in
    rw (a, c)

pub put_over : (l : List ℕ) → Below 256 l → (bit w u v : ℕ) → bit + w ≤ 8 * length l → u < 2 ^ w → put_at (put_at l bit w u) bit w v ≡ put_at l bit w v
unfolding put_at
put_over l b bit w u v h k =
    let l' = put_at l bit w u in
    let d = behind l bit w in
    ap (λ (i : ℕ). unpacked (eights i) (replaced (number l') (8 * i - (bit + w)) w v)) (put_length l bit w u)
    ∙ ap (λ (i : ℕ). unpacked (eights (length l)) (replaced i d w v)) (put_number l bit w u b h k)
    ∙ ap (unpacked (eights (length l))) (replaced_over (number l) d w u v k)

-- Fields put as they are leave the bytes

pub put_same : (l : List ℕ) → Below 256 l → (bit w : ℕ) → put_at l bit w (field_at l bit w) ≡ l
unfolding put_at field_at replaced
put_same l b bit w =
    let n = number l in
    let d = behind l bit w in
    let e : n / 2 ^ (w + d) ≡ n / 2 ^ d / 2 ^ w = rw (add_comm w d) (sym (shr-shr n d w)) in
    ap (unpacked (eights (length l))) (rw (e, split (n / 2 ^ d) w, split n d)) ∙ bytes_back l b

-- of a layout, by their numbers there
abbrev pub own : List ℕ → List ℕ → List (ℕ × ℕ)
own fs [] = []
own fs (k ∷ ks) = (k, get_or fs k 0) ∷ own fs ks

pub put_own : (l : List ℕ) → Below 256 l → (bit : ℕ) (ws ks : List ℕ) (ps : List (ℕ × ℕ))
    → put_fields bit ws (own (fields_from l bit ws) ks ++ ps) l ≡ put_fields bit ws ps l
put_own l b bit ws [] ps = refl
put_own l b bit ws (k ∷ ks) ps =
    let at = bit + bits (take k ws) in
    let w = get_or ws k 0 in
    ap (put_fields bit ws (own (fields_from l bit ws) ks ++ ps)) (ap (put_at l at w) (listed l bit ws k) ∙ put_same l b at w)
    ∙ put_own l b bit ws ks ps

-- Fields side by side from `bit` on, put one after the other, are put as one

abbrev pub put_each : List ℕ → ℕ → List ℕ → List ℕ → List ℕ
put_each l bit [] vs = l
put_each l bit (w ∷ ws) [] = l
put_each l bit (w ∷ ws) (v ∷ vs) = put_each (put_at l bit w v) (bit + w) ws vs

put_none : (l : List ℕ) → Below 256 l → (bit : ℕ) → put_at l bit 0 0 ≡ l
unfolding field_at
put_none l b bit = ap (put_at l bit 0) (sym (mod-one (number l / 2 ^ behind l bit 0))) ∙ put_same l b bit 0

pub put_run : (l : List ℕ) → Below 256 l → (bit : ℕ) (ws vs : List ℕ) → Fit ws vs → bit + bits ws ≤ 8 * length l
    → put_each l bit ws vs ≡ put_at l bit (bits ws) (packed ws vs)
put_run l b bit [] vs f h = sym (put_none l b bit)
put_run l b bit (w ∷ ws) [] f h = absurd (omega arith)
put_run l b bit (w ∷ ws) (v ∷ vs) f h =
    put_run (put_at l bit w v) (put_below l bit w v) (bit + w) ws vs f.1 (rw (put_length l bit w v) (omega arith))
    ∙ put_joined l b bit w (bits ws) v (packed ws vs) h f.0
