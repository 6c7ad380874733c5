-- The image part by part: the bytes, the colours, the fields; and the parts of the code's own reads and writes.
use mathlib.Core.Path.{◌≡◌, refl, ap, ◌∙◌}
use mathlib.Core.List.{List, ◌++◌, append_assoc}
use Prim.Native.Nat.{ℕ, ◌+◌, ◌-◌, ◌^◌, ◌<◌, ◌≤◌}
use native.Mathlib.Nat.{le_refl}
use native.Mathlib.Omega.{arith}
use lib.ListN.{length, take}
use lib.Seq.{paste, take-paste, length-paste, take_all}
use Rattle.packing.specs.Packing.{Fit, bits, packed, unpacked, repacked, eights, fives}
use Rattle.packing.proofs.Laws.{packed_lt, unpack_pack, unpack_length, unpack_fit, pack_unpack, regroup, fit_length, fit_append}
use Rattle.image.specs.Layout.{image_len, field_widths, widths}

-- the bytes of the fields
abbrev pub field_len : ℕ
field_len = image_len - 632

pub joined : {a b c d : List ℕ} → a ≡ b → c ≡ d → a ++ c ≡ b ++ d
joined p q = cc

pub two : (ws us bs cs vs xs : List ℕ) → Fit ws vs → Fit us xs → bits us ≡ bits cs
    → repacked (ws ++ us) (bs ++ cs) (vs ++ xs) ≡ repacked ws bs vs ++ repacked us cs xs
unfolding repacked
two ws us bs cs vs xs h k e = regroup ws us bs cs vs xs (fit_length ws vs h) e (packed_lt us xs k)

pub same : (ws vs : List ℕ) → Fit ws vs → repacked ws ws vs ≡ vs
unfolding repacked
same ws vs h = unpack_pack ws vs h

pub repacked_length : (us ws vs : List ℕ) → length (repacked us ws vs) ≡ length ws
unfolding repacked
repacked_length us ws vs = unpack_length ws (packed us vs)

pub repacked_fit : (us ws vs : List ℕ) → Fit ws (repacked us ws vs)
unfolding repacked
repacked_fit us ws vs = unpack_fit ws (packed us vs)

-- there and back
pub repacked_back : (us ws vs : List ℕ) → bits us ≡ bits ws → Fit us vs → repacked ws us (repacked us ws vs) ≡ vs
unfolding repacked
repacked_back us ws vs e h =
    let k : packed us vs < 2 ^ bits ws = rw e at (packed_lt us vs h) in
    ap (unpacked us) (pack_unpack ws (packed us vs) k) ∙ unpack_pack us vs h

-- the values of a state as bytes, part by part
pub bytes_parts : (x b s f : List ℕ) → Fit (eights 512) x → Fit (fives 96) b → Fit (fives 96) s → Fit field_widths f
    → repacked widths (eights image_len) (x ++ ((b ++ s) ++ f))
    ≡ x ++ ((repacked (fives 96) (eights 60) b ++ repacked (fives 96) (eights 60) s) ++ repacked field_widths (eights field_len) f)
unfolding widths
bytes_parts x b s f hx hb hs hf =
    let c = fit_append (fives 96) (fives 96) b s hb hs in
    two (eights 512) (fives 192 ++ field_widths) (eights 512) (eights 120 ++ eights field_len) x ((b ++ s) ++ f) hx
    (fit_append (fives 192) field_widths (b ++ s) f c hf) refl
    ∙ rw (
      same (eights 512) x hx,
      two (fives 192) field_widths (eights 120) (eights field_len) (b ++ s) f c hf refl,
      two (fives 96) (fives 96) (eights 60) (eights 60) b s hb hs refl,
    )

-- and an image's bytes as values
pub values_parts : (x y z f : List ℕ) → Fit (eights 512) x → Fit (eights 60) y → Fit (eights 60) z → Fit (eights field_len) f
    → repacked (eights image_len) widths (x ++ ((y ++ z) ++ f))
    ≡ x ++ ((repacked (eights 60) (fives 96) y ++ repacked (eights 60) (fives 96) z) ++ repacked (eights field_len) field_widths f)
unfolding widths
values_parts x y z f hx hy hz hf =
    let c = fit_append (eights 60) (eights 60) y z hy hz in
    two (eights 512) (eights 120 ++ eights field_len) (eights 512) (fives 192 ++ field_widths) x ((y ++ z) ++ f) hx
    (fit_append (eights 120) (eights field_len) (y ++ z) f c hf) refl
    ∙ rw (
      same (eights 512) x hx,
      two (eights 120) (eights field_len) (fives 192) field_widths (y ++ z) f c hf refl,
      two (eights 60) (eights 60) (fives 96) (fives 96) y z hy hz refl,
    )

put_at : (d s : List ℕ) (at k : ℕ) (r : List ℕ) → r ≡ paste d at s (length s) → length s ≡ k → at + k ≤ length d → take (at + k) r ≡ take at d ++ s
put_at d s at k r e n h = rw (e, n) (take-paste d at s k (omega arith) (omega arith) ∙ ap (λ (x : List ℕ). take at d ++ x) (take_all k s (omega arith)))

pub put_kept : (d s : List ℕ) (at : ℕ) (r : List ℕ) → r ≡ paste d at s (length s) → at + length s ≤ length d → length r ≡ length d
put_kept d s at r e h = rw e (length-paste d at s (length s) h (le_refl (length s)))

-- four parts stored one after the other make the front
module _ (l o p b s : List ℕ) (n : length l ≡ image_len) (ho : length o ≡ 256) (hp : length p ≡ 256) (hb : length b ≡ 60) (hs : length s ≡ 60)
    (l₁ l₂ l₃ l₄ : List ℕ) (e₁ : l₁ ≡ paste l 0 o (length o)) (e₂ : l₂ ≡ paste l₁ 256 p (length p)) (e₃ : l₃ ≡ paste l₂ 512 b (length b))
    (e₄ : l₄ ≡ paste l₃ 572 s (length s)) where
  pub stored_size : length l₄ ≡ image_len
  stored_size =
      let n₁ : length l₁ ≡ image_len = put_kept l o 0 l₁ e₁ (omega arith) ∙ n in
      let n₂ : length l₂ ≡ image_len = put_kept l₁ p 256 l₂ e₂ (omega arith) ∙ n₁ in
      let n₃ : length l₃ ≡ image_len = put_kept l₂ b 512 l₃ e₃ (omega arith) ∙ n₂ in
      put_kept l₃ s 572 l₄ e₄ (omega arith) ∙ n₃

  pub stored_parts : take 632 l₄ ≡ (o ++ p) ++ (b ++ s)
  stored_parts =
      let n₁ : length l₁ ≡ image_len = put_kept l o 0 l₁ e₁ (omega arith) ∙ n in
      let n₂ : length l₂ ≡ image_len = put_kept l₁ p 256 l₂ e₂ (omega arith) ∙ n₁ in
      let n₃ : length l₃ ≡ image_len = put_kept l₂ b 512 l₃ e₃ (omega arith) ∙ n₂ in
      let t₁ : take 256 l₁ ≡ o = put_at l o 0 256 l₁ e₁ ho (omega arith) in
      let t₂ : take 512 l₂ ≡ take 256 l₁ ++ p = put_at l₁ p 256 256 l₂ e₂ hp (omega arith) in
      let t₃ : take 572 l₃ ≡ take 512 l₂ ++ b = put_at l₂ b 512 60 l₃ e₃ hb (omega arith) in
      let t₄ : take 632 l₄ ≡ take 572 l₃ ++ s = put_at l₃ s 572 60 l₄ e₄ hs (omega arith) in
      t₄ ∙ ap (λ (x : List ℕ). x ++ s) (t₃ ∙ ap (λ (x : List ℕ). x ++ b) (t₂ ∙ ap (λ (x : List ℕ). x ++ p) t₁)) ∙ append_assoc (o ++ p) b s
