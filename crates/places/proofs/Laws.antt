-- A field's place in a list of widths is its place in the bytes; a field that is put changes no other.
use mathlib.Core.Path.{◌≡◌, refl, sym, ap, subst, ◌∙◌}
use mathlib.Core.List.{List, [], ◌∷◌, ◌++◌, append_assoc}
use Prim.Native.Nat.{ℕ, zero, suc, ◌+◌, ◌-◌, ◌*◌, ◌/◌, ◌%◌, ◌^◌, ◌<◌, ◌≤◌}
use native.Mathlib.Nat.{mod-lt, add_comm, add_assoc, mul_comm, add-zero, add-mul, mul_assoc, lt_of_lt_of_le}
use native.Mathlib.Omega.{arith}
use lib.Arith.{digits_lt}
use lib.ListN.{length, take, drop, get_or, set, length-append, length-drop, length-replicate, take-append-drop, replicate-append-replicate}
use borrow.Rule.Slice.PartMut.{put_mid}
use Rattle.std.proofs.lemmas.Slice.{put_mid-paste}
use lib.Seq.{sets, sets-eq, length-sets, length-take-le, drop-drop}
use lib.Pow.{split, shr_lt, shl_exact, pow_mono, pow_pos, pow-add, high, low, shr-shr, mod-pow-add, mod-mod-pow, field}
use Rattle.packing.specs.Packing.{Below, bits, packed, unpacked, eights}
use Rattle.packing.proofs.Laws.{packed_lt, bits_replicate, pack_append, below_fit, below_take, below_drop, unpack_mod, unpack_low, unpack_pack, unpack_length, pack_unpack}
use Rattle.packing.proofs.Runs.{pasted}
use Rattle.places.specs.Places.{number, behind, field_at, fields_from, replaced, put_at}

-- the fields of a layout that fills the bytes to their end are those at the places
pub fields_from_law : (l : List ℕ) (bit : ℕ) (ws : List ℕ) → bit + bits ws ≡ 8 * length l → unpacked ws (number l) ≡ fields_from l bit ws
unfolding field_at
fields_from_law l bit [] h = refl
fields_from_law l bit (w ∷ ws) h =
    let e : behind l bit w ≡ bits ws = omega arith in
    rw (e, fields_from_law l (bit + w) ws (omega arith))

pub field_lt : (l : List ℕ) (bit w : ℕ) → field_at l bit w < 2 ^ w
unfolding field_at
field_lt l bit w = mod-lt (number l / 2 ^ behind l bit w) (pow_pos w)

-- and the k-th of them stands behind the widths before its own; past the last there is 0, as in no bits
pub listed : (l : List ℕ) (bit : ℕ) (ws : List ℕ) (k : ℕ) → get_or (fields_from l bit ws) k 0 ≡ field_at l (bit + bits (take k ws)) (get_or ws k 0)
listed l bit [] zero = let h = field_lt l (bit + 0) 0 in omega arith
listed l bit [] (suc k) = let h = field_lt l (bit + 0) 0 in omega arith
listed l bit (w ∷ ws) zero = rw (add-zero bit)
listed l bit (w ∷ ws) (suc k) = listed l (bit + w) ws k ∙ ap (λ (n : ℕ). field_at l n (get_or ws k 0)) (add_assoc bit w (bits (take k ws)))

pub field_in : (l : List ℕ) (bit : ℕ) (ws : List ℕ) (k : ℕ) → bit + bits ws ≡ 8 * length l → k < length ws
    → get_or (unpacked ws (number l)) k 0 ≡ field_at l (bit + bits (take k ws)) (get_or ws k 0)
field_in l bit ws k h i = ap (λ (fs : List ℕ). get_or fs k 0) (fields_from_law l bit ws h) ∙ listed l bit ws k

-- Windows

pub bits_eights : (k : ℕ) → bits (eights k) ≡ 8 * k
bits_eights k = bits_replicate k 8 ∙ mul_comm k 8

bytes_lt : (l : List ℕ) → Below 256 l → packed (eights (length l)) l < 2 ^ (8 * length l)
bytes_lt l h = rw bits_eights at (packed_lt (eights (length l)) l (below_fit (length l) 8 l refl h))

pub number_append : (a b : List ℕ) → number (a ++ b) ≡ number a * 2 ^ (8 * length b) + number b
unfolding number
number_append a b =
    let r : eights (length a) ++ eights (length b) ≡ eights (length a + length b) = replicate-append-replicate (length a) (length b) 8 in
    rw (length-append a b, ← r, pack_append (eights (length a)) (eights (length b)) a b (sym (length-replicate (length a) 8)), bits_eights (length b))

pub number_lt : (l : List ℕ) → Below 256 l → number l < 2 ^ (8 * length l)
unfolding number
number_lt l h = bytes_lt l h

joined_number : (x y z : List ℕ) → number (x ++ (y ++ z)) ≡ (number x * 2 ^ (8 * length y) + number y) * 2 ^ (8 * length z) + number z
joined_number x y z =
    rw (← append_assoc x y z, number_append (x ++ y) z, number_append x y)

-- x, y, z one after the other: y is what stands between
pub between : (x y z : List ℕ) → Below 256 y → Below 256 z → number y ≡ number (x ++ (y ++ z)) / 2 ^ (8 * length z) % 2 ^ (8 * length y)
between x y z hy hz =
    let n = number x in
    let e : number (x ++ (y ++ z)) ≡ (n * 2 ^ (8 * length y) + number y) * 2 ^ (8 * length z) + number z =
    joined_number x y z in
    rw (e, high (n * 2 ^ (8 * length y) + number y) (8 * length z) (number_lt z hz), low n (8 * length y) (number_lt y hy))

-- the field of w bits above the s lowest of a window of 64 bits is that of the whole
pub window : (n c t s w : ℕ) → s + w ≤ t → n / 2 ^ c % 2 ^ t / 2 ^ s % 2 ^ w ≡ n / 2 ^ (c + s) % 2 ^ w
window n c t s w h =
    let j = t - (s + w) in
    let e : t ≡ j + w + s = omega arith in
    rw (e, field (n / 2 ^ c) (j + w) s, mod-mod-pow (n / 2 ^ c / 2 ^ s) j w, shr-shr n c s)

-- the m bits above the k lowest of a field are a field themselves
pub inner_field : (l : List ℕ) (bit w k m : ℕ) → k + m ≤ w → bit + w ≤ 8 * length l → field_at l bit w / 2 ^ k % 2 ^ m ≡ field_at l (bit + (w - (k + m))) m
unfolding field_at
inner_field l bit w k m h i =
    let e : behind l (bit + (w - (k + m))) m ≡ behind l bit w + k = omega arith in
    rw e (window (number l) (behind l bit w) w k m h)

three : (l : List ℕ) (a k : ℕ) → l ≡ take a l ++ (take k (drop a l) ++ drop (a + k) l)
three l a k = sym (rw (← drop-drop k a l, take-append-drop k (drop a l)) (take-append-drop a l))

-- a window of k bytes
module _ (l : List ℕ) (b : Below 256 l) (a k : ℕ) (h : a + k ≤ length l) where
  window_length : length (take k (drop a l)) ≡ k
  window_length = length-take-le k (drop a l) (rw length-drop (omega arith))

  window_below : Below 256 (take k (drop a l))
  window_below = below_take k 256 (drop a l) (omega arith) (below_drop a 256 l b)

  window_lt : packed (eights k) (take k (drop a l)) < 2 ^ (8 * k)
  window_lt = rw bits_eights at (packed_lt (eights k) (take k (drop a l)) (below_fit k 8 (take k (drop a l)) window_length window_below))

  window_at : packed (eights k) (take k (drop a l)) ≡ number l / 2 ^ (8 * (length l - (a + k))) % 2 ^ (8 * k)
  unfolding number
  window_at =
      let x = between (take a l) (take k (drop a l)) (drop (a + k) l) window_below (below_drop (a + k) 256 l b) in
      rw (window_length, length-drop, ← three l a k) at x

  -- a field whose last bit is in the window's last byte
  pub field_window : (s w bit : ℕ) → s + w ≤ 8 * k → bit + w + s ≡ 8 * (a + k)
      → packed (eights k) (take k (drop a l)) / 2 ^ s % 2 ^ w ≡ field_at l bit w
  unfolding field_at
  field_window s w bit t e =
      let f : behind l bit w ≡ 8 * (length l - (a + k)) + s = omega arith in
      rw (window_at, window (number l) (8 * (length l - (a + k))) (8 * k) s w t, f)

-- A field that is put

module _ (x k y : ℕ) where
  -- a number of j + k bits below x: its upper part goes with x, its lower part stays
  seam : (j : ℕ) → x * 2 ^ (j + k) + y ≡ (x * 2 ^ j + y / 2 ^ k) * 2 ^ k + y % 2 ^ k
  seam j =
      let p : x * 2 ^ (j + k) ≡ x * 2 ^ j * 2 ^ k = ap (λ (z : ℕ). x * z) (pow-add 2 j k) ∙ sym (mul_assoc x (2 ^ j) (2 ^ k)) in
      rw (add-mul (x * 2 ^ j) (y / 2 ^ k) (2 ^ k)) (omega (arith, p, split y k))

  pub above_div : (j : ℕ) → (x * 2 ^ (j + k) + y) / 2 ^ k ≡ x * 2 ^ j + y / 2 ^ k
  above_div j = ap (λ (z : ℕ). z / 2 ^ k) (seam j) ∙ high (x * 2 ^ j + y / 2 ^ k) k (mod-lt y (pow_pos k))

  pub above_mod : (j : ℕ) → (x * 2 ^ (j + k) + y) % 2 ^ k ≡ y % 2 ^ k
  above_mod j = ap (λ (z : ℕ). z % 2 ^ k) (seam j) ∙ low (x * 2 ^ j + y / 2 ^ k) k (mod-lt y (pow_pos k))

-- what stands below stays
pub replaced_lift : (m c z s w v : ℕ) → z < 2 ^ c → replaced (m * 2 ^ c + z) (s + c) w v ≡ replaced m s w v * 2 ^ c + z
unfolding replaced
replaced_lift m c z s w v h =
    let n = m * 2 ^ c + z in
    let a : n / 2 ^ (w + (s + c)) ≡ m / 2 ^ (w + s) =
    let e : w + (s + c) ≡ c + (w + s) = omega arith in
    rw (e, ← shr-shr n c (w + s), high m c h) in
    let b : n % 2 ^ (s + c) ≡ m % 2 ^ s * 2 ^ c + z = mod-pow-add n s c ∙ rw (high m c h, low m c h) in
    let u = m / 2 ^ (w + s) * 2 ^ w + v in
    let d : u * 2 ^ (s + c) ≡ u * 2 ^ s * 2 ^ c = ap (λ (y : ℕ). u * y) (pow-add 2 s c) ∙ sym (mul_assoc u (2 ^ s) (2 ^ c)) in
    rw (a, b, d, add-mul (u * 2 ^ s) (m % 2 ^ s) (2 ^ c)) (omega arith)

-- and what stands above
lower_at : (x j y s w v : ℕ) → replaced (x * 2 ^ (j + w + s) + y) s w v ≡ x * 2 ^ (j + w + s) + replaced y s w v
unfolding replaced
lower_at x j y s w v =
    let a : (x * 2 ^ (j + w + s) + y) / 2 ^ (w + s) ≡ x * 2 ^ j + y / 2 ^ (w + s) = rw (add_assoc j w s) (above_div x (w + s) y j) in
    let b : (x * 2 ^ (j + w + s) + y) % 2 ^ s ≡ y % 2 ^ s = above_mod x s y (j + w) in
    let q = y / 2 ^ (w + s) in
    let g : (x * 2 ^ j + q) * 2 ^ w + v ≡ x * 2 ^ j * 2 ^ w + (q * 2 ^ w + v) = rw (add-mul (x * 2 ^ j) q (2 ^ w)) (omega arith) in
    let i : x * 2 ^ j * 2 ^ w * 2 ^ s ≡ x * 2 ^ (j + w + s) =
    ap (λ (z : ℕ). z * 2 ^ s) (mul_assoc x (2 ^ j) (2 ^ w) ∙ ap (λ (z : ℕ). x * z) (sym (pow-add 2 j w)))
    ∙ mul_assoc x (2 ^ (j + w)) (2 ^ s) ∙ ap (λ (z : ℕ). x * z) (sym (pow-add 2 (j + w) s)) in
    let r : ((x * 2 ^ j + q) * 2 ^ w + v) * 2 ^ s ≡ x * 2 ^ (j + w + s) + (q * 2 ^ w + v) * 2 ^ s =
    ap (λ (z : ℕ). z * 2 ^ s) g ∙ add-mul (x * 2 ^ j * 2 ^ w) (q * 2 ^ w + v) (2 ^ s) ∙ ap (λ (z : ℕ). z + (q * 2 ^ w + v) * 2 ^ s) i in
    rw (a, b, r) (omega arith)

pub replaced_lower : (x t y s w v : ℕ) → s + w ≤ t → replaced (x * 2 ^ t + y) s w v ≡ x * 2 ^ t + replaced y s w v
replaced_lower x t y s w v h =
    let e : t - (s + w) + w + s ≡ t = omega arith in
    subst (λ (k : ℕ). replaced (x * 2 ^ k + y) s w v ≡ x * 2 ^ k + replaced y s w v) e (lower_at x (t - (s + w)) y s w v)

replaced_high : (n b w v r : ℕ) → v < 2 ^ w → replaced n b w v / 2 ^ (b + w + r) ≡ n / 2 ^ (b + w + r)
unfolding replaced
replaced_high n b w v r h =
    rw (
      ← shr-shr (replaced n b w v) (b + w) r,
      ← shr-shr (replaced n b w v) b w,
      high (n / 2 ^ (w + b) * 2 ^ w + v) b (mod-lt n (pow_pos b)),
      high (n / 2 ^ (w + b)) w h,
      add_comm w b,
      shr-shr n (b + w) r,
    )

pub replaced_above : (n b w v c : ℕ) → b + w ≤ c → v < 2 ^ w → replaced n b w v / 2 ^ c ≡ n / 2 ^ c
replaced_above n b w v c k h =
    let e : b + w + (c - (b + w)) ≡ c = omega arith in
    subst (λ (x : ℕ). replaced n b w v / 2 ^ x ≡ n / 2 ^ x) e (replaced_high n b w v (c - (b + w)) h)

inside : (ws : List ℕ) (k : ℕ) → bits (drop (suc k) ws) + get_or ws k 0 ≤ bits ws
inside [] k = omega arith
inside (w ∷ ws) zero = omega arith
inside (w ∷ ws) (suc k) = let h = inside ws k in omega arith

-- a field replaced is set among the fields, and the others stay
pub replaced_set : (ws : List ℕ) (n k v : ℕ) → v < 2 ^ get_or ws k 0
    → unpacked ws (replaced n (bits (drop (suc k) ws)) (get_or ws k 0) v) ≡ set (unpacked ws n) k v
unfolding replaced
replaced_set [] n k v b = refl
replaced_set (w ∷ ws) n zero v b =
    let u = n / 2 ^ (w + bits ws) in
    let d = mod-lt n (pow_pos (bits ws)) in
    rw (high (u * 2 ^ w + v) (bits ws) d, low u w b, unpack_low ws (u * 2 ^ w + v) d, unpack_mod ws n)
replaced_set (w ∷ ws) n (suc k) v b =
    rw (replaced_above n (bits (drop (suc k) ws)) (get_or ws k 0) v (bits ws) (inside ws k) b, replaced_set ws n k v b)

-- what the code of `replaced` computes does not wrap
module _ (n s w v : ℕ) (hn : n < 2 ^ 64) (hw : w + s < 64) (hv : v < 2 ^ w) where
  high_lt : n / 2 ^ (w + s) < 2 ^ (64 - (w + s))
  high_lt =
      let e : 64 ≡ 64 - (w + s) + (w + s) = omega arith in
      shr_lt (64 - (w + s)) (w + s) (subst (λ (x : ℕ). n < 2 ^ x) e hn)

  pub first_shift : n / 2 ^ (w + s) * 2 ^ w % 2 ^ 64 ≡ n / 2 ^ (w + s) * 2 ^ w
  first_shift = shl_exact (64 - (w + s)) w 64 high_lt (omega arith)

  sum_lt : n / 2 ^ (w + s) * 2 ^ w + v < 2 ^ (64 - (w + s) + w)
  sum_lt = rw (pow-add 2 (64 - (w + s)) w) (digits_lt high_lt hv)

  pub sum_fits : n / 2 ^ (w + s) * 2 ^ w + v < 2 ^ 64
  sum_fits =
      let h : 64 - (w + s) + w ≤ 64 = omega arith in
      lt_of_lt_of_le sum_lt (pow_mono h)

  pub second_shift : (n / 2 ^ (w + s) * 2 ^ w + v) * 2 ^ s % 2 ^ 64 ≡ (n / 2 ^ (w + s) * 2 ^ w + v) * 2 ^ s
  second_shift = shl_exact (64 - (w + s) + w) s 64 sum_lt (omega arith)

  pub replaced_fits : (n / 2 ^ (w + s) * 2 ^ w + v) * 2 ^ s + n % 2 ^ s < 2 ^ 64
  replaced_fits =
      let e : 64 - (w + s) + w + s ≡ 64 = omega arith in
      let h = digits_lt sum_lt (mod-lt n (pow_pos s)) in
      subst (λ (x : ℕ). (n / 2 ^ (w + s) * 2 ^ w + v) * 2 ^ s + n % 2 ^ s < 2 ^ x) e (rw (← pow-add 2 (64 - (w + s) + w) s) at h)

below_pow : (n t : ℕ) → n / 2 ^ t ≡ 0 → n < 2 ^ t
below_pow n t h =
    let s : 0 * 2 ^ t + n % 2 ^ t ≡ n = subst (λ (x : ℕ). x * 2 ^ t + n % 2 ^ t ≡ n) h (split n t) in
    let m = mod-lt n (pow_pos t) in
    omega arith

pow_below : (n t : ℕ) → n < 2 ^ t → n / 2 ^ t ≡ 0
pow_below n t h = let e : n ≡ 0 * 2 ^ t + n = omega arith in ap (λ (x : ℕ). x / 2 ^ t) e ∙ high 0 t h

pub replaced_lt : (n b w v t : ℕ) → n < 2 ^ t → b + w ≤ t → v < 2 ^ w → replaced n b w v < 2 ^ t
replaced_lt n b w v t h k hv = below_pow (replaced n b w v) t (replaced_above n b w v t k hv ∙ pow_below n t h)

-- a field put in a window is put in the whole
module _ (l : List ℕ) (b : Below 256 l) (a k : ℕ) (h : a + k ≤ length l) (s w bit v m : ℕ) (t : s + w ≤ 8 * k) (e : bit + w + s ≡ 8 * (a + k))
    (hv : v < 2 ^ w) (r : m ≡ replaced (packed (eights k) (take k (drop a l))) s w v) where
  new_length : length (unpacked (eights k) m) ≡ k
  new_length = unpack_length (eights k) m ∙ length-replicate k 8

  new_number : number (unpacked (eights k) m) ≡ m
  unfolding number
  new_number =
      let z : m < 2 ^ (8 * k) = rw r (replaced_lt (packed (eights k) (take k (drop a l))) s w v (8 * k) (window_lt l b a k h) t hv) in
      ap (λ (i : ℕ). packed (eights i) (unpacked (eights k) m)) new_length
      ∙ pack_unpack (eights k) m (subst (λ (x : ℕ). m < 2 ^ x) (sym (bits_eights k)) z)

  whole_number : number (sets l a (unpacked (eights k) m)) ≡ replaced (number l) (behind l bit w) w v
  unfolding number
  whole_number =
      let x = take a l in
      let y = take k (drop a l) in
      let u = unpacked (eights k) m in
      let z = drop (a + k) l in
      let c = 8 * length z in
      let ly : length y ≡ k = window_length l b a k h in
      let hu : a + length u ≤ length l = rw new_length h in
      let p : number (x ++ (u ++ z)) ≡ (number x * 2 ^ (8 * k) + m) * 2 ^ c + number z =
      joined_number x u z ∙ ap (λ (i : ℕ). (number x * 2 ^ (8 * i) + number u) * 2 ^ c + number z) new_length
      ∙ ap (λ (i : ℕ). (number x * 2 ^ (8 * k) + i) * 2 ^ c + number z) new_number in
      let q : number l ≡ (number x * 2 ^ (8 * k) + packed (eights k) y) * 2 ^ c + number z =
      ap number (three l a k) ∙ joined_number x y z
      ∙ ap (λ (i : ℕ). (number x * 2 ^ (8 * i) + packed (eights i) y) * 2 ^ c + number z) ly in
      let f : behind l bit w ≡ s + c = rw length-drop (omega arith) in
      ap number (sets-eq u l a hu ∙ append_assoc x u (drop (a + length u) l) ∙ ap (λ (i : ℕ). x ++ (u ++ drop (a + i) l)) new_length) ∙ p
      ∙ ap (λ (i : ℕ). (number x * 2 ^ (8 * k) + i) * 2 ^ c + number z) r
      ∙ sym (ap (λ (i : ℕ). i * 2 ^ c + number z) (replaced_lower (number x) (8 * k) (packed (eights k) y) s w v t))
      ∙ sym (replaced_lift (number x * 2 ^ (8 * k) + packed (eights k) y) c (number z) s w v (number_lt z (below_drop (a + k) 256 l b)))
      ∙ sym (ap (λ (i : ℕ). replaced i (s + c) w v) q) ∙ sym (ap (λ (i : ℕ). replaced (number l) i w v) f)

  -- the window's bytes stored
  pub stored : (l' : List ℕ) → l' ≡ sets l a (unpacked (eights k) m) → Below 256 l' → l' ≡ put_at l bit w v
  unfolding number put_at
  stored l' i d =
      let n : length l' ≡ length l = ap length i ∙ length-sets l a (unpacked (eights k) m) in
      sym (unpack_pack (eights (length l')) l' (below_fit (length l') 8 l' refl d))
      ∙ ap (λ (j : ℕ). unpacked (eights j) (number l')) n
      ∙ ap (unpacked (eights (length l))) (ap number i ∙ whole_number)

-- the window as the code has it: the k bytes from a on, of which x is the number, made those of the number m
pub put_window : (l : List ℕ) → Below 256 l → (a k : ℕ) → a + k ≤ length l → (s w bit v m j x : ℕ) (u : List ℕ) → s + w ≤ 8 * k
    → bit + w + s ≡ 8 * (a + k) → v < 2 ^ w → j ≡ k
    → x ≡ packed (eights (length (take j (drop a l)))) (take j (drop a l)) → m ≡ replaced x s w v → u ≡ unpacked (eights (length (take j (drop a l)))) m
    → Below 256 (put_mid a j l u) → put_mid a j l u ≡ put_at l bit w v
put_window l b a k h s w bit v m j x u t e hv jk ex em eu d =
    let n : length (take k (drop a l)) ≡ k = length-take-le k (drop a l) (rw length-drop (omega arith)) in
    let r : m ≡ replaced (packed (eights k) (take k (drop a l))) s w v = em ∙ ap (λ (y : ℕ). replaced y s w v) (rw (jk, n) at ex) in
    let f : u ≡ unpacked (eights k) m = rw (jk, n) at eu in
    let c : length u ≡ k = rw f (unpack_length (eights k) m ∙ length-replicate k 8) in
    let g : a + length u ≤ length l = rw c h in
    let i : put_mid a j l u ≡ sets l a (unpacked (eights k) m) =
    put_mid-paste a j l u u (length u) refl (c ∙ sym jk) refl ∙ pasted l u a g ∙ ap (sets l a) f in
    stored l b a k h s w bit v m t e hv r (put_mid a j l u) i d
