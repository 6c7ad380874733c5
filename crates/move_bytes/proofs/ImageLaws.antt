-- The image with the first bytes of OAM pasted, and with the registers of a transfer put, is the image of the changed state.
use Rattle.std.proofs.Common.{◌≡◌, ℕ, zero, suc, ◌+◌, ◌<◌, ◌≤◌, Bool, true, false, eqb, List, length, get_or, set, sym, refl, ap, ◌∙◌, subst, arith}
use lib.Seq.{paste, paste-zero, paste-suc}
use Rattle.hdma.specs.Hdma.{risen, stepped, block_ended, general_ended}
use Rattle.hdma.specs.declared.Ended.{Ended}
use Rattle.hdma.specs.declared.Hdma.{Hdma}
use Rattle.hdma.specs.declared.Written.{Written}
use Rattle.image.proofs.GroupPatches.{hdma_typed}
use Rattle.image.proofs.PatchLaws.{image_put, oam_image, page_image, typed_bytes, storable_bytes, bytes_set}
use Rattle.image.specs.Laws.{Typed}
use Rattle.image.specs.Layout.{image_len, bit, image_of}
use Rattle.image.specs.Load.{storable}
use Rattle.image.specs.Patches.{put, hdma_fields}
use Rattle.memory.specs.World.{with_oam, with_hdma, hdma_in}
use Rattle.memory.specs.declared.Memory.{Memory}
use Rattle.registers.specs.State.{stored}
use Rattle.registers.specs.Transfers.{transfer_put, with_ended}
use Rattle.rules.proofs.Tests.{cond_both}
use Rattle.move_bytes.specs.Transfers.{ended_put}

-- OAM, byte by byte from its first

pub record OamPasted (m : Memory) (s : List ℕ) (n : ℕ) : Type 0 where
  pub typed : Typed (with_oam m (paste m.oam 0 s n))
  pub image : image_of (with_oam m (paste m.oam 0 s n)) ≡ paste (image_of m) 0 s n

module _ (m : Memory) (t : Typed m) (h : storable m ≡ true) (z : length (image_of m) ≡ image_len) (s : List ℕ) (b : (k : ℕ) → k < length s → get_or s k 0 < 256) where
  pub oam_pasted : (n : ℕ) → n ≤ 256 → n ≤ length s → OamPasted m s n
  oam_pasted zero a l =
      record {
        typed = subst (λ (o : List ℕ). Typed (with_oam m o)) (paste-zero m.oam 0 s) t;
        image = ap (λ (o : List ℕ). image_of (with_oam m o)) (sym (paste-zero m.oam 0 s)) ∙ paste-zero (image_of m) 0 s;
      }
  oam_pasted (suc n) a l =
      let p = oam_pasted n (omega arith) (omega arith) in
      let o = paste m.oam 0 s n in
      let v = get_or s n 0 in
      let k : storable (with_oam m o) ≡ true = storable_bytes m o m.page ∙ h in
      let d = t.oam.0 in
      let g = b n (omega arith) in
      let q : n ≡ 0 + n = omega arith in
      let e : set o n v ≡ paste m.oam 0 s (suc n) =
      ap (λ (j : ℕ). set o j v) q ∙ paste-suc m.oam 0 s n 0 (omega arith) (omega arith) in
      record {
        typed = subst (λ (y : List ℕ). Typed (with_oam m y)) e (typed_bytes (with_oam m o) p.typed (set o n v) m.page (bytes_set o n v p.typed.oam g) t.page);
        image =
            ap (λ (y : List ℕ). image_of (with_oam m y)) (sym e)
            ∙ oam_image (with_oam m o) p.typed k n v (omega arith) g
            ∙ ap (λ (y : List ℕ). set y n v) p.image
            ∙ ap (λ (j : ℕ). set (paste (image_of m) 0 s n) j v) q
            ∙ paste-suc (image_of m) 0 s n 0 (omega arith) (omega arith);
      }

-- The registers

bit_lt : (b : Bool) → bit b < 2
bit_lt true = omega arith
bit_lt false = omega arith

module _ (m : Memory) (t : Typed m) (h : storable m ≡ true) where
  pub stored_image : (i v : ℕ) → i < 256 → v < 256 → set (image_of m) (256 + i) v ≡ image_of (stored m i v)
  stored_image i v hi hv = sym (page_image m t h i v hi hv)

  pub stored_typed : (i v : ℕ) → v < 256 → Typed (stored m i v)
  stored_typed i v hv = typed_bytes m t m.oam (set m.page i v) t.oam (bytes_set m.page i v t.page hv)

  pub stored_storable : (i v : ℕ) → storable (stored m i v) ≡ true
  stored_storable i v = storable_bytes m m.oam (set m.page i v) ∙ h

  pub hdma_image : (x : Hdma) → x.source < 65536 → x.destination < 65536 → put (hdma_fields x) (image_of m) ≡ image_of (with_hdma m x m.page)
  hdma_image x a b = image_put m t h (hdma_fields x) (omega (arith, bit_lt x.on)) (hdma_in m.core x) refl

-- what a transfer leaves fits its places
pub record Fitting (e : Ended) : Type 0 where
  pub source : e.hdma.source < 65536
  pub destination : e.hdma.destination < 65536
  pub r51 : e.r51 < 256
  pub r52 : e.r52 < 256
  pub r53 : e.r53 < 256
  pub r54 : e.r54 < 256
  pub r55 : e.r55 < 256

stepped_below : (edge past a : ℕ) → past < 65536 → stepped edge past a < 65536
unfolding stepped
stepped_below edge past a h = cond_both (λ (k : ℕ). k < 65536) (eqb (risen a 16) edge) h (omega arith)

pub block_fitting : (x : Hdma) (r55 : ℕ) → Fitting (block_ended x r55)
unfolding block_ended
block_fitting x r55 =
    let a = stepped_below 0x8000 0xA000 x.source (omega arith) in
    let b = stepped_below 0xA000 0x8000 x.destination (omega arith) in
    record {
      source = a;
      destination = b;
      r51 = omega arith;
      r52 = omega arith;
      r53 = omega arith;
      r54 = omega arith;
      r55 = omega arith;
    }

pub general_fitting : (x : Hdma) (v : ℕ) → Fitting (general_ended x v)
unfolding general_ended
general_fitting x v =
    record {
      source = omega arith;
      destination = omega arith;
      r51 = omega arith;
      r52 = omega arith;
      r53 = omega arith;
      r54 = omega arith;
      r55 = omega arith;
    }

pub ended_image : (m : Memory) → Typed m → storable m ≡ true → (e : Ended) → Fitting e → ended_put (image_of m) e ≡ image_of (with_ended m e)
unfolding ended_put
ended_image m t h e f =
    let m₁ = stored m 0x51 e.r51 in
    let t₁ = stored_typed m t h 0x51 e.r51 f.r51 in
    let h₁ = stored_storable m t h 0x51 e.r51 in
    let m₂ = stored m₁ 0x52 e.r52 in
    let t₂ = stored_typed m₁ t₁ h₁ 0x52 e.r52 f.r52 in
    let h₂ = stored_storable m₁ t₁ h₁ 0x52 e.r52 in
    let m₃ = stored m₂ 0x53 e.r53 in
    let t₃ = stored_typed m₂ t₂ h₂ 0x53 e.r53 f.r53 in
    let h₃ = stored_storable m₂ t₂ h₂ 0x53 e.r53 in
    let m₄ = stored m₃ 0x54 e.r54 in
    let t₄ = stored_typed m₃ t₃ h₃ 0x54 e.r54 f.r54 in
    let h₄ = stored_storable m₃ t₃ h₃ 0x54 e.r54 in
    let m₅ = stored m₄ 0x55 e.r55 in
    let t₅ = stored_typed m₄ t₄ h₄ 0x55 e.r55 f.r55 in
    let h₅ = stored_storable m₄ t₄ h₄ 0x55 e.r55 in
    let g = put (hdma_fields e.hdma) in
    ap (λ (l : List ℕ). g (set (set (set (set l 0x152 e.r52) 0x153 e.r53) 0x154 e.r54) 0x155 e.r55)) (stored_image m t h 0x51 e.r51 (omega arith) f.r51)
    ∙ ap (λ (l : List ℕ). g (set (set (set l 0x153 e.r53) 0x154 e.r54) 0x155 e.r55)) (stored_image m₁ t₁ h₁ 0x52 e.r52 (omega arith) f.r52)
    ∙ ap (λ (l : List ℕ). g (set (set l 0x154 e.r54) 0x155 e.r55)) (stored_image m₂ t₂ h₂ 0x53 e.r53 (omega arith) f.r53)
    ∙ ap (λ (l : List ℕ). g (set l 0x155 e.r55)) (stored_image m₃ t₃ h₃ 0x54 e.r54 (omega arith) f.r54)
    ∙ ap g (stored_image m₄ t₄ h₄ 0x55 e.r55 (omega arith) f.r55)
    ∙ hdma_image m₅ t₅ h₅ e.hdma f.source f.destination

-- FF55 as its write leaves it

module _ (m : Memory) (t : Typed m) (h : storable m ≡ true) (a : Written) (f : a.hdma.source < 65536) (g : a.hdma.destination < 65536) (b : a.byte < 256) where
  pub written_typed : Typed (transfer_put m 0x55 a)
  written_typed = hdma_typed m t a.hdma (set m.page 0x55 a.byte) f g (bytes_set m.page 0x55 a.byte t.page b)
