-- What the parts of src/ leave is what the transfer of crates/mmu leaves: its bytes by proofs/Copies.antt, its registers by proofs/ImageLaws.antt.
use Rattle.std.proofs.Common.{◌≡◌, ℕ, ◌+◌, ◌-◌, ◌*◌, ◌%◌, ◌<◌, ◌≤◌, min, true, ltb, ◌⊎◌, List, length, get_or, take, drop, sym, refl, ap, ◌∙◌, subst, inl, inr, ⊎_elim, arith, get_or-take, ltb-true}
use lib.ListN.{get_or-append}
use lib.Seq.{paste, take-length}
use Rattle.hdma.specs.Hdma.{source_used, destination_used, block_ended, general_ended}
use Rattle.hdma.specs.PanDocs.{length_of}
use Rattle.hdma.specs.declared.Ended.{Ended}
use Rattle.hdma.specs.declared.Hdma.{Hdma}
use Rattle.image.proofs.LoadedPatches.{loaded_typed, loaded_storable}
use Rattle.image.proofs.OpenLaws.{load_length, load_image, load_page}
use Rattle.image.specs.Laws.{Typed}
use Rattle.image.specs.Layout.{image_len, image_of}
use Rattle.image.specs.Load.{storable, load_call}
use Rattle.memory.specs.World.{World, Fixed}
use Rattle.memory.specs.declared.Core.{Core}
use Rattle.memory.specs.declared.Memory.{Memory}
use Rattle.mmu.proofs.Laws.{copy_none}
use Rattle.mmu.specs.Access.{read_byte, in_state}
use Rattle.mmu.specs.PanDocs.{vram_at}
use Rattle.mmu.specs.Write.{copy_by, write_at}
use Rattle.packing.specs.Packing.{Below}
use Rattle.registers.specs.State.{loaded}
use Rattle.copies.specs.Copies.{nothing, oam_copy}
use Rattle.copies.specs.PanDocs.{oam_pages}
use Rattle.registers.specs.Transfers.{block_copy, general_copy, finished, with_ended}
use Rattle.copies.specs.declared.Copy.{Copy}
use Rattle.copies.specs.declared.Finish.TheVariants.{Nothing}
use Rattle.rules.proofs.Tests.{by_cond}
use Rattle.put_bytes.specs.Left.{left, world_of, left_by}
use Rattle.move_bytes.specs.Transfers.{Lent, Row, Read, Lands, Copied, Moved, ended_put}
use Rattle.move_bytes.proofs.Copies.{From, copy_vram, copy_oam, block_ahead, copy_split}
use Rattle.move_bytes.proofs.ImageLaws.{oam_pasted, Fitting, block_fitting, general_fitting, ended_image}
use Rattle.move_bytes.proofs.RowLaws.{lent_reaches}

-- where a block's bytes come from and go to
pub source_sixteen : (h : Hdma) {k : ℕ} → k ≡ source_used h → k % 16 ≡ 0
unfolding source_used
source_sixteen h e = rw e (omega arith)

-- bytes that were pasted at the front are bytes
pasted_below : (i out : List ℕ) {j : List ℕ} → j ≡ paste i 0 out (length out) → Below 256 j → (k : ℕ) → k < length out → get_or out k 0 < 256
pasted_below i out g b k h =
    let e : get_or (paste i 0 out (length out)) k 0 ≡ get_or out k 0 =
    get_or-append (take (length out) out) (drop (0 + length out) i) 0 k (rw (take-length out) h) ∙ get_or-take (length out) out k 0 h in
    rw (← e, ← g) (b k)

-- what OAM DMA copies
oam_cases : (page : ℕ)
    → (oam_copy page ≡ nothing) ⊎ ((page < oam_pages) × (oam_copy page ≡ record { source = page * 256; destination = 0xFE00; count = 160; finish = Nothing }))
unfolding oam_copy
oam_cases page =
    by_cond (λ (k : Copy). (k ≡ nothing) ⊎ ((page < oam_pages) × (k ≡ record { source = page * 256; destination = 0xFE00; count = 160; finish = Nothing })))
    (ltb page oam_pages) _ nothing (λ t. inr (ltb-true page oam_pages t, refl)) (λ f. inl refl)

pub oam_row : (page : ℕ) {k : Copy} → k ≡ oam_copy page → (k.count ≡ 0 → ⊥) → Row k.source 160
oam_row page {k} e h =
    ⊎_elim (λ n. absurd (h (ap (λ (c : Copy). c.count) (e ∙ n))))
    (λ q. let z : k.source ≡ page * 256 = ap (λ (c : Copy). c.source) (e ∙ q.1) in omega arith) (oam_cases page)

module _ {x : Fixed} {i : List ℕ} {c : Core} {v w s : List ℕ} (t : Lent x i c v w s) where
  abbrev state : Memory
  state = (load_call i).state

  pub lent_typed : Typed state
  lent_typed = loaded_typed i t.bytes t.number

  pub lent_storable : storable state ≡ true
  lent_storable = loaded_storable i t.bytes t.number

  pub lent_image : image_of state ≡ i
  lent_image = load_image i t.number t.bytes

  -- OAM

  pub oam_none : (page : ℕ) {k : Copy} → k ≡ oam_copy page → k.count ≡ 0 → (value : ℕ) → Moved x i v w s (oam_copy page) value i v
  unfolding copy_by finished
  oam_none page {k} e z value l =
      ⊎_elim (λ n. rw n (ap (λ (j : List ℕ). left 0 0 j v w s l) (sym lent_image)))
      (λ q. let y : k.count ≡ 160 = ap (λ (c : Copy). c.count) (e ∙ q.1) in absurd (omega arith)) (oam_cases page)

  from_read : (source : ℕ) (out : List ℕ) (n : ℕ) → length out ≡ n → source + n ≤ 65536 → Read x i v w s source out → (l : List ℕ)
      → From x (world_of i v w s l) source out n
  from_read source out n a b f l k h =
      let p : source + k ≡ (source + k) % 65536 = omega arith in
      f k (omega arith) ∙ ap (λ (j : ℕ). read_byte x state v w s j) p

  pub oam_moved : (page : ℕ) {k : Copy} → k ≡ oam_copy page → (k.count ≡ 0 → ⊥) → (out : List ℕ) → length out ≡ 160
      → Read x i v w s k.source out → {j : List ℕ} → j ≡ paste i 0 out (length out) → Below 256 j → (value : ℕ) → Moved x i v w s (oam_copy page) value j v
  unfolding finished
  oam_moved page {k} e h out a f {j} g b value l =
      ⊎_elim (λ n. absurd (h (ap (λ (c : Copy). c.count) (e ∙ n))))
      (λ q.
      let q₀ = q.0 in
      let z : k.source ≡ page * 256 = ap (λ (c : Copy). c.source) (e ∙ q.1) in
      let r : Read x i v w s (page * 256) out = subst (λ (p : ℕ). Read x i v w s p out) z f in
      let d = copy_oam x (world_of i v w s l) (page * 256) out 1 160 (omega arith) lent_typed.oam.0 (omega arith) (omega arith)
      (from_read (page * 256) out 160 a (omega arith) r l) in
      let y : length (image_of state) ≡ image_len = ap length lent_image ∙ load_length i t.number in
      let p = oam_pasted state lent_typed lent_storable y out (pasted_below i out g b) 160 (omega arith) (omega arith) in
      let u : j ≡ paste (image_of state) 0 out 160 =
      g ∙ ap (λ (n : ℕ). paste i 0 out n) a ∙ ap (λ (n : List ℕ). paste n 0 out 160) (sym lent_image) in
      ap (λ (n : List ℕ). left 0 0 n v w s l) (u ∙ sym p.image)
      ∙ sym (ap (λ (n : World). left_by (in_state n n.state)) d)
      ∙ ap (λ (n : Copy). left_by (in_state (copy_by x (write_at x 1) n.source n.destination n.count (world_of i v w s l))
      (finished (copy_by x (write_at x 1) n.source n.destination n.count (world_of i v w s l)).state n.finish value))) (sym q.1))
      (oam_cases page)

  -- Video memory

  module _ (destination n : ℕ) (b : Lands destination n) {at : ℕ} (a : at ≡ vram_at c.banks.vram destination) where
    pub block_fits : at + n ≤ length v
    block_fits =
        let f = (lent_reaches t).vram in
        let b₁ = b.1 in
        let b₂ = b.2 in
        omega arith

  pub block_copied : (source destination : ℕ) → source < 65536 → source % 16 ≡ 0 → Lands destination 16 → {at : ℕ} → at ≡ vram_at c.banks.vram destination
      → (out : List ℕ) → length out ≡ 16 → Read x i v w s source out → {v' : List ℕ} → v' ≡ paste v at out (length out)
      → Copied x i v w s source destination 16 v'
  block_copied source destination k d b {at} a out z f {v'} g l =
      let b₂ = b.2 in
      let p : at ≡ vram_at state.core.banks.vram destination = a ∙ ap (λ (d : Core). vram_at d.banks.vram destination) t.core in
      let y = block_fits destination 16 b a in
      ap (λ (y : List ℕ). world_of i y w s l) (g ∙ ap (λ (n : ℕ). paste v at out n) z ∙ ap (λ (n : ℕ). paste v n out 16) p)
      ∙ sym (copy_vram x (world_of i v w s l) source out destination b.1 1 16 b₂ (rw (← p) y) (omega arith)
      (from_read source out 16 z (omega arith) f l) (block_ahead source destination k d b.0))

  -- a copy and its registers
  ended_moved : (k : Copy) {v' : List ℕ} → Copied x i v w s k.source k.destination k.count v' → (e : Ended) → Fitting e → (value : ℕ)
      → with_ended state e ≡ finished state k.finish value → {j : List ℕ} → j ≡ ended_put i e → Moved x i v w s k value j v'
  ended_moved k {v'} f e g value z {j} q l =
      let y : j ≡ image_of (finished state k.finish value) =
      q ∙ ap (λ (n : List ℕ). ended_put n e) (sym lent_image) ∙ ended_image state lent_typed lent_storable e g ∙ ap image_of z in
      ap (λ (n : List ℕ). left 0 0 n v' w s l) y ∙ ap (λ (n : World). left_by (in_state n (finished n.state k.finish value))) (f l)

  same_hdma : c.hdma ≡ state.core.hdma
  same_hdma = ap (λ (d : Core). d.hdma) t.core

  same_copied : {source destination n a b k : ℕ} → source ≡ a → destination ≡ b → n ≡ k → {v' : List ℕ} → Copied x i v w s source destination n v'
      → Copied x i v w s a b k v'
  same_copied {source} {destination} {n} {a} {b} {k} p q r f l =
      f l
      ∙ ap (λ (m : ℕ). copy_by x (write_at x 1) m destination n (world_of i v w s l)) p
      ∙ ap (λ (m : ℕ). copy_by x (write_at x 1) a m n (world_of i v w s l)) q
      ∙ ap (λ (m : ℕ). copy_by x (write_at x 1) a b m (world_of i v w s l)) r

  module _ {source destination : ℕ} (a : source ≡ source_used c.hdma) (b : destination ≡ destination_used c.hdma) where
    a' : source ≡ source_used state.core.hdma
    a' = a ∙ ap source_used same_hdma

    b' : destination ≡ destination_used state.core.hdma
    b' = b ∙ ap destination_used same_hdma

    pub block_moved : {v' : List ℕ} → Copied x i v w s source destination 16 v' → {e : Ended} → e ≡ block_ended c.hdma (get_or i 0x155 0)
        → {j : List ℕ} → j ≡ ended_put i e → (value : ℕ) → Moved x i v w s (block_copy state) value j v'
    unfolding finished
    block_moved f {e} g q value =
        let H = state.core.hdma in
        let r : e ≡ block_ended H (loaded state 0x55) =
        g ∙ ap (λ (d : Hdma). block_ended d (get_or i 0x155 0)) same_hdma
        ∙ ap (block_ended H) (sym (load_page i t.number t.bytes 0x55 (omega arith))) in
        ended_moved (block_copy state) (same_copied a' b' refl f) (block_ended H (loaded state 0x55)) (block_fitting H (loaded state 0x55)) value refl
        (q ∙ ap (ended_put i) r)

    pub general_moved : (value : ℕ) {n count : ℕ} → n ≡ length_of value → count ≡ min n (0xA000 - destination) → {v' : List ℕ}
        → Copied x i v w s source destination count v' → {e : Ended} → e ≡ general_ended c.hdma value → {j : List ℕ} → j ≡ ended_put i e
        → Moved x i v w s (general_copy state value) value j v'
    unfolding finished
    general_moved value {n} {count} y z f {e} g q =
        let H = state.core.hdma in
        let r : e ≡ general_ended H value = g ∙ ap (λ (d : Hdma). general_ended d value) same_hdma in
        let p : count ≡ min (length_of value) (0xA000 - destination_used H) =
        z ∙ ap (λ (k : ℕ). min k (0xA000 - destination)) y ∙ ap (λ (k : ℕ). min (length_of value) (0xA000 - k)) b' in
        ended_moved (general_copy state value) (same_copied a' b' p f) (general_ended H value) (general_fitting H value) value refl
        (q ∙ ap (ended_put i) r)

  -- block after block
  pub copied_none : (source destination : ℕ) → Copied x i v w s source destination 0 v
  copied_none source destination l = sym (copy_none x (write_at x 1) source destination (world_of i v w s l))

  pub copied_more : (source destination n : ℕ) {v₁ v₂ : List ℕ} → Copied x i v w s source destination n v₁
      → Copied x i v₁ w s ((source + n) % 65536) (destination + n) 16 v₂ → Copied x i v w s source destination (n + 16) v₂
  copied_more source destination n f g l =
      g l
      ∙ ap (λ (u : World). copy_by x (write_at x 1) ((source + n) % 65536) (destination + n) 16 u) (f l)
      ∙ sym (copy_split x (write_at x 1) source destination n (world_of i v w s l) 16)

  pub lent_vram : {v' : List ℕ} → length v' ≡ length v → Lent x i c v' w s
  lent_vram e =
      record {
        bytes = t.bytes;
        number = t.number;
        core = t.core;
        ready = record {
          holds = record {
            state = t.ready.holds.state;
            vram = e ∙ t.ready.holds.vram;
            wram = t.ready.holds.wram;
            save = t.ready.holds.save;
            log = t.ready.holds.log;
          };
          rom = t.ready.rom;
          sound = t.ready.sound;
        };
      }

-- the bytes of a general transfer that land are blocks
pub landing_sixteen : (n destination value : ℕ) {count : ℕ} → n ≡ length_of value → count ≡ min n (0xA000 - destination) → destination % 16 ≡ 0 → count % 16 ≡ 0
landing_sixteen n destination value a e h = omega arith

-- the next of blocks that land
module _ (source destination count i : ℕ) (p : ((source % 16 ≡ 0) × (count % 16 ≡ 0)) × Lands destination count) (a : i ≤ count) (b : i % 16 ≡ 0) (h : i < count) where
  pub step_within : i + 16 ≤ count
  step_within = omega (arith, p.0.1)

  pub step_lands : ((source + i) % 65536 % 16 ≡ 0) × Lands (destination + i) 16
  step_lands =
      let p₁ = p.0.0 in
      let p₂ = p.0.1 in
      let p₃ = p.1.0 in
      let p₄ = p.1.1 in
      let p₅ = p.1.2 in
      (omega arith, (omega arith, omega arith, omega arith))
