-- A copy whose bytes can be read before any is written: then it is the memory with these bytes pasted, and the rest of the world stays. So it is wherever
-- no byte is read behind its own place: of a block of 16 that begins at a multiple of 16, and of OAM DMA, whose source is never OAM.
use Rattle.std.proofs.Common.{◌≡◌, ℕ, zero, suc, ◌+◌, ◌-◌, ◌%◌, ◌<◌, ◌≤◌, List, length, get_or, set, sym, refl, ap, ◌∙◌, add-zero, add-suc, arith, get_or-set_other}
use lib.Seq.{paste, paste-zero, paste-suc}
use Rattle.memory.proofs.Regions.{Within, within, region_at}
use Rattle.memory.specs.Region.{region_of}
use Rattle.memory.specs.World.{World, Fixed, with_oam}
use Rattle.memory.specs.declared.region.Region.{Region}
use Rattle.memory.specs.declared.region.Region.TheVariants.{Rom, Vram, Save, Wram, Oam, Page}
use Rattle.mmu.proofs.Laws.{write_plain}
use Rattle.mmu.proofs.Places.{put_by}
use Rattle.mmu.specs.Access.{byte_in, read_in, in_state, in_vram}
use Rattle.mmu.specs.PanDocs.{vram_at}
use Rattle.mmu.specs.Write.{copy_by, write_at}

-- a list with bytes pasted, at another place
paste_other : (d : List ℕ) (at : ℕ) (s : List ℕ) (n j : ℕ) → at + n ≤ length d → n ≤ length s → (at ≤ j → at + n ≤ j)
    → get_or (paste d at s n) j 0 ≡ get_or d j 0
paste_other d at s zero j a b h = ap (λ (l : List ℕ). get_or l j 0) (sym (paste-zero d at s))
paste_other d at s (suc n) j a b h =
    ap (λ (l : List ℕ). get_or l j 0) (sym (paste-suc d at s n 0 (omega arith) (omega arith)))
    ∙ get_or-set_other (paste d at s n) (at + n) j (get_or s n 0) 0 (λ e. let k = h (omega arith) in omega arith)
    ∙ paste_other d at s n j (omega arith) (omega arith) (λ k. let g = h k in omega arith)

-- one byte, into video memory and into OAM
module _ (x : Fixed) (w : World) (d i v : ℕ) where
  pub write_vram : 0x8000 ≤ i → i < 0xA000 → write_at x d w i v ≡ in_vram w (set w.vram (vram_at w.state.core.banks.vram i) v)
  write_vram a b = write_plain x w d i v (λ e. omega arith) (λ e. omega arith) ∙ sym (put_by w i v (region_at Vram i (a, b)) refl)

  pub write_oam : 0xFE00 ≤ i → i < 0xFF00 → write_at x d w i v ≡ in_state w (with_oam w.state (set w.state.oam (i - 0xFE00) v))
  write_oam a b = write_plain x w d i v (λ e. omega arith) (λ e. omega arith) ∙ sym (put_by w i v (region_at Oam i (a, b)) refl)

-- the first n bytes of a list are those from `source` on
abbrev pub From : Fixed → World → ℕ → List ℕ → ℕ → Type 0
From x w source s n = (i : ℕ) → i < n → get_or s i 0 ≡ read_in x w ((source + i) % 65536)

-- no byte is read behind the place that it goes to
abbrev pub Ahead : ℕ → ℕ → ℕ → Type 0
Ahead source destination n = (i : ℕ) → i < n → destination ≤ (source + i) % 65536 → destination + i ≤ (source + i) % 65536

module _ (x : Fixed) (w : World) (source : ℕ) (s : List ℕ) where
  -- Into video memory
  module _ (destination : ℕ) (a : 0x8000 ≤ destination) where
    abbrev at : ℕ
    at = vram_at w.state.core.banks.vram destination

    abbrev pasted : ℕ → World
    pasted n = in_vram w (paste w.vram at s n)

    read_region : (n k : ℕ) → destination + n ≤ 0xA000 → at + n ≤ length w.vram → n ≤ length s → (destination ≤ k → destination + n ≤ k)
        → (r : Region) → Within r k
        → byte_in r x w.state (paste w.vram at s n) w.wram w.save k ≡ byte_in r x w.state w.vram w.wram w.save k
    read_region n k b f l h Rom q = refl
    read_region n k b f l h Vram q =
        let q₀ = q.0 in
        paste_other w.vram at s n (vram_at w.state.core.banks.vram k) f l (λ e. let g = h (omega arith) in omega arith)
    read_region n k b f l h Save q = refl
    read_region n k b f l h Wram q = refl
    read_region n k b f l h Oam q = refl
    read_region n k b f l h Page q = refl

    read_pasted : (n k : ℕ) → destination + n ≤ 0xA000 → at + n ≤ length w.vram → n ≤ length s → (destination ≤ k → destination + n ≤ k)
        → read_in x (pasted n) k ≡ read_in x w k
    read_pasted n k b f l h = read_region n k b f l h (region_of k) (within k refl)

    pub copy_vram : (d n : ℕ) → destination + n ≤ 0xA000 → at + n ≤ length w.vram → n ≤ length s → From x w source s n → Ahead source destination n
        → copy_by x (write_at x d) source destination n w ≡ pasted n
    unfolding copy_by
    copy_vram d zero b f l g h = ap (in_vram w) (paste-zero w.vram at s)
    copy_vram d (suc n) b f l g h =
        let k = (source + n) % 65536 in
        let e = copy_vram d n (omega arith) (omega arith) (omega arith) (λ i p. g i (omega arith)) (λ i p. h i (omega arith)) in
        let v : read_in x (copy_by x (write_at x d) source destination n w) k ≡ get_or s n 0 =
        ap (λ (u : World). read_in x u k) e
        ∙ read_pasted n k (omega arith) (omega arith) (omega arith) (h n (omega arith))
        ∙ sym (g n (omega arith)) in
        let p : vram_at w.state.core.banks.vram (destination + n) ≡ at + n = omega arith in
        ap (λ (u : World). write_at x d u (destination + n) (read_in x (copy_by x (write_at x d) source destination n w) k)) e
        ∙ ap (λ (b : ℕ). write_at x d (pasted n) (destination + n) b) v
        ∙ write_vram x (pasted n) d (destination + n) (get_or s n 0) (omega arith) (omega arith)
        ∙ ap (λ (q : ℕ). in_vram w (set (paste w.vram at s n) q (get_or s n 0))) p
        ∙ ap (in_vram w) (paste-suc w.vram at s n 0 (omega arith) (omega arith))

  -- Into OAM, from a source below it
  abbrev oam_pasted : ℕ → World
  oam_pasted n = in_state w (with_oam w.state (paste w.state.oam 0 s n))

  read_lent : (o : List ℕ) (k : ℕ) → k < 0xFE00 → (r : Region) → Within r k
      → byte_in r x (with_oam w.state o) w.vram w.wram w.save k ≡ byte_in r x w.state w.vram w.wram w.save k
  read_lent o k h Rom q = refl
  read_lent o k h Vram q = refl
  read_lent o k h Save q = refl
  read_lent o k h Wram q = refl
  read_lent o k h Oam q = let a = q.0 in absurd (omega arith)
  read_lent o k h Page q = absurd (omega arith)

  pub copy_oam : (d n : ℕ) → n ≤ 256 → length w.state.oam ≡ 256 → n ≤ length s → source + n ≤ 0xFE00 → From x w source s n
      → copy_by x (write_at x d) source 0xFE00 n w ≡ oam_pasted n
  unfolding copy_by
  copy_oam d zero b f l h g = ap (λ (o : List ℕ). in_state w (with_oam w.state o)) (paste-zero w.state.oam 0 s)
  copy_oam d (suc n) b f l h g =
      let k = (source + n) % 65536 in
      let e = copy_oam d n (omega arith) f (omega arith) (omega arith) (λ i p. g i (omega arith)) in
      let v : read_in x (copy_by x (write_at x d) source 0xFE00 n w) k ≡ get_or s n 0 =
      ap (λ (u : World). read_in x u k) e
      ∙ read_lent (paste w.state.oam 0 s n) k (omega arith) (region_of k) (within k refl)
      ∙ sym (g n (omega arith)) in
      let p : 0xFE00 + n - 0xFE00 ≡ 0 + n = omega arith in
      ap (λ (u : World). write_at x d u (0xFE00 + n) (read_in x (copy_by x (write_at x d) source 0xFE00 n w) k)) e
      ∙ ap (λ (b : ℕ). write_at x d (oam_pasted n) (0xFE00 + n) b) v
      ∙ write_oam x (oam_pasted n) d (0xFE00 + n) (get_or s n 0) (omega arith) (omega arith)
      ∙ ap (λ (q : ℕ). in_state w (with_oam w.state (set (paste w.state.oam 0 s n) q (get_or s n 0)))) p
      ∙ ap (λ (o : List ℕ). in_state w (with_oam w.state o)) (paste-suc w.state.oam 0 s n 0 (omega arith) (omega arith))

-- a block of 16 from a multiple of 16 to a multiple of 16: the same block, or one apart
pub block_ahead : (source destination : ℕ) → source < 65536 → source % 16 ≡ 0 → destination % 16 ≡ 0 → Ahead source destination 16
block_ahead source destination l a b i h e = omega arith

-- a copy in two parts
pub copy_split : (x : Fixed) (f : World → ℕ → ℕ → World) (source destination n : ℕ) (w : World) (m : ℕ)
    → copy_by x f source destination (n + m) w ≡ copy_by x f ((source + n) % 65536) (destination + n) m (copy_by x f source destination n w)
unfolding copy_by
copy_split x f source destination n w zero = rw (add-zero n)
copy_split x f source destination n w (suc m) =
    let u = copy_by x f ((source + n) % 65536) (destination + n) m (copy_by x f source destination n w) in
    let e = copy_split x f source destination n w m in
    let p : (source + (n + m)) % 65536 ≡ ((source + n) % 65536 + m) % 65536 = omega arith in
    let q : destination + (n + m) ≡ destination + n + m = omega arith in
    ap (λ (k : ℕ). copy_by x f source destination k w) (add-suc n m)
    ∙ ap (λ (y : World). f y (destination + (n + m)) (read_in x y ((source + (n + m)) % 65536))) e
    ∙ ap (λ (k : ℕ). f u (destination + (n + m)) (read_in x u k)) p
    ∙ ap (λ (k : ℕ). f u k (read_in x u (((source + n) % 65536 + m) % 65536))) q
