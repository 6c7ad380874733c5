-- OAM DMA as one change of OAM: no byte that it writes is one that it reads. (Byte by byte, 160 writes are too many to compute.)
use mathlib.Core.Bool.{Bool, true, false, cond}
use mathlib.Core.List.{List}
use mathlib.Core.Path.{◌≡◌, refl, sym, ap, ◌∙◌}
use Prim.Native.Nat.{ℕ, zero, suc, ◌+◌, ◌*◌, ◌-◌, ◌%◌, ◌<◌, ◌≤◌}
use native.Mathlib.Omega.{arith}
use lib.Dec.{eqb, ltb}
use lib.ListN.{get_or, drop, set}
use lib.Seq.{get_or-drop}
use borrow.Author.Tests.{lt-ltb, le-ltb, ltb-true, ltb-false, eqb-true}
use Rattle.mbc.specs.Mbc.{rom_bank}
use Rattle.mbc.specs.PanDocs.{rom_place}
use Rattle.memory.proofs.Regions.{Within, within, region_at}
use Rattle.memory.specs.Region.{region_of}
use Rattle.memory.specs.World.{World, Fixed, with_oam}
use Rattle.memory.specs.declared.Memory.{Memory}
use Rattle.memory.specs.declared.region.Region.{Region}
use Rattle.memory.specs.declared.region.Region.TheVariants.{Rom, Vram, Save, Wram, Oam, Page}
use Rattle.mmu.proofs.Laws.{write_plain}
use Rattle.mmu.proofs.Places.{put_by}
use Rattle.mmu.proofs.Rows.{rom_row, wram_row}
use Rattle.mmu.specs.Access.{byte_in, read_in, in_state, put}
use Rattle.mmu.specs.PanDocs.{wram_at}
use Rattle.mmu.specs.Write.{copy_by, transferred, write_at}
use Rattle.copies.specs.Copies.{nothing, oam_copy}
use Rattle.copies.specs.PanDocs.{oam_pages}
use Rattle.registers.specs.Transfers.{copy_of, finished}
use Rattle.copies.specs.declared.Finish.TheVariants.{Nothing}
use Rattle.rules.proofs.Tests.{by_cond}

-- the first n bytes, each by its place
unfoldable pub laid : (ℕ → ℕ) → ℕ → List ℕ → List ℕ
laid f zero o = o
laid f (suc n) o = set (laid f n o) n (f n)

abbrev in_oam : World → List ℕ → World
in_oam w o = in_state w (with_oam w.state o)

-- of the state, a read below E000 takes the mapper and the selected banks: neither OAM nor a register
module _ (x : Fixed) (w : World) (m : Memory) (c : m.core.cartridge ≡ w.state.core.cartridge) (p : m.core.mapper ≡ w.state.core.mapper)
    (s : m.core.banks ≡ w.state.core.banks) where
  read_in_law : (r : Region) (i : ℕ) → Within r i → i < 0xE000
      → byte_in r x m w.vram w.wram w.save i ≡ byte_in r x w.state w.vram w.wram w.save i
  read_in_law Rom i b h = rw (c, p)
  read_in_law Vram i b h = rw s
  read_in_law Save i b h = rw (c, p)
  read_in_law Wram i b h = rw s
  read_in_law Oam i b h = absurd (omega (arith, b.0))
  read_in_law Page i b h = absurd (omega arith)

  pub read_apart : (i : ℕ) → i < 0xE000 → read_in x (in_state w m) i ≡ read_in x w i
  read_apart i h = read_in_law (region_of i) i (within i refl) h

write_oam : (x : Fixed) (w : World) (n v : ℕ) → n < 160 → write_at x 1 w (0xFE00 + n) v ≡ in_oam w (set w.state.oam n v)
write_oam x w n v h =
    let i = 0xFE00 + n in
    let s : i - 0xFE00 ≡ n = omega arith in
    write_plain x w 1 i v (λ e. omega arith) (λ e. omega arith)
    ∙ sym (put_by w i v (region_at Oam i (omega arith, omega arith)) (rw s))

-- what a page holds
abbrev pub page_of : Fixed → World → ℕ → ℕ → ℕ
page_of x w page k = read_in x w (page * 256 + k)

module _ (x : Fixed) (w : World) (page : ℕ) where
  abbrev Copied : ℕ → Type 0
  Copied n = copy_by x (write_at x 1) (page * 256) 0xFE00 n w ≡ in_oam w (laid (page_of x w page) n w.state.oam)

  copy_none : Copied 0
  unfolding copy_by laid
  copy_none = refl

  copy_more : (n : ℕ) → n < 160 → page < 0xE0 → Copied n → Copied (suc n)
  unfolding copy_by laid
  copy_more n h high e =
      let o = laid (page_of x w page) n w.state.oam in
      let s : (page * 256 + n) % 65536 ≡ page * 256 + n = omega arith in
      rw (e, s, read_apart x w (with_oam w.state o) refl refl refl (page * 256 + n) (omega arith)) (write_oam x (in_oam w o) n _ h)

  copy_laid : page < 0xE0 → (n : ℕ) → n ≤ 160 → Copied n
  copy_laid high zero h = copy_none
  copy_laid high (suc n) h = copy_more n (omega arith) high (copy_laid high n (omega arith))

  none_done : (v : ℕ) → transferred x (write_at x 1) nothing v w ≡ w
  unfolding copy_by finished
  none_done v = refl

  all_done : page < 0xE0 → (n v : ℕ) → n ≤ 160
      → transferred x (write_at x 1) (record { source = page * 256; destination = 0xFE00; count = n; finish = Nothing }) v w
      ≡ in_oam w (laid (page_of x w page) n w.state.oam)
  unfolding finished
  all_done high n v h = rw (copy_laid high n h)

-- pages below E0 are copied, the others not
module _ (x : Fixed) (w : World) (page v : ℕ) where
  pub transfer_some : page < oam_pages → transferred x (write_at x 1) (oam_copy page) v w ≡ in_oam w (laid (page_of x w page) 160 w.state.oam)
  unfolding oam_copy
  transfer_some h = rw (lt-ltb page oam_pages h) (all_done x w page h 160 v (omega arith))

  pub transfer_none : oam_pages ≤ page → transferred x (write_at x 1) (oam_copy page) v w ≡ w
  unfolding oam_copy
  transfer_none h = rw (le-ltb page oam_pages h) (none_done x w page v)

-- A page of ROM or of work memory stands in a row: to find its start once is much less to compute

laid_same : (f g : ℕ → ℕ) (n : ℕ) (o : List ℕ) → ((k : ℕ) → k < n → f k ≡ g k) → laid f n o ≡ laid g n o
unfolding laid
laid_same f g zero o h = refl
laid_same f g (suc n) o h = rw (laid_same f g n o (λ k l. h k (omega arith)), h n (omega arith))

abbrev rom_from : Fixed → World → ℕ → List ℕ
rom_from x w page = drop (rom_place (rom_bank w.state.core.mapper) (page * 256)) x.rom

abbrev wram_from : World → ℕ → List ℕ
wram_from w page = drop (wram_at w.state.core.banks.wram (page * 256)) w.wram

module _ (x : Fixed) (w : World) (page k : ℕ) (h : k < 160) where
  rom_read : page < 0x80 → page_of x w page k ≡ get_or (rom_from x w page) k 0
  rom_read high =
      sym (rom_row x w.state w.vram w.wram w.save (page * 256) 160 (omega arith) (omega arith) k h)
      ∙ sym (get_or-drop (rom_place (rom_bank w.state.core.mapper) (page * 256)) x.rom k 0)

  wram_read : 0xC0 ≤ page → page < 0xE0 → page_of x w page k ≡ get_or (wram_from w page) k 0
  wram_read low high =
      sym (wram_row x w.state w.vram w.wram w.save (page * 256) 160 (omega arith) (region_at Wram (page * 256) (omega arith, omega arith)) k h)
      ∙ sym (get_or-drop (wram_at w.state.core.banks.wram (page * 256)) w.wram k 0)

unfoldable pub oam_after : Fixed → World → ℕ → List ℕ
oam_after x w page =
    cond (ltb page 0x80) (let l = rom_from x w page in laid (λ k. get_or l k 0) 160 w.state.oam)
    (cond (ltb page 0xC0) (laid (page_of x w page) 160 w.state.oam)
    (let l = wram_from w page in laid (λ k. get_or l k 0) 160 w.state.oam))

after_laid : (x : Fixed) (w : World) (page : ℕ) → page < 0xE0 → laid (page_of x w page) 160 w.state.oam ≡ oam_after x w page
unfolding oam_after
after_laid x w page high =
    by_cond (λ (o : List ℕ). laid (page_of x w page) 160 w.state.oam ≡ o) (ltb page 0x80) _ _
    (λ t.
    laid_same (page_of x w page) (λ k. get_or (rom_from x w page) k 0) 160 w.state.oam (λ k h. rom_read x w page k h (ltb-true page 0x80 t)))
    (λ f.
    by_cond (λ (o : List ℕ). laid (page_of x w page) 160 w.state.oam ≡ o) (ltb page 0xC0) _ _ (λ t. refl)
    (λ g.
    laid_same (page_of x w page) (λ k. get_or (wram_from w page) k 0) 160 w.state.oam (λ k h. wram_read x w page k h (ltb-false page 0xC0 g) high)))

-- the whole transfer
unfoldable pub dma : Fixed → World → ℕ → World
dma x w page = cond (ltb page oam_pages) (in_oam w (oam_after x w page)) w

transfer_dma : (x : Fixed) (w : World) (page v : ℕ) → transferred x (write_at x 1) (oam_copy page) v w ≡ dma x w page
unfolding dma
transfer_dma x w page v =
    by_cond (λ (u : World). transferred x (write_at x 1) (oam_copy page) v w ≡ u) (ltb page oam_pages) _ w
    (λ t. let h = ltb-true page oam_pages t in transfer_some x w page v h ∙ ap (in_oam w) (after_laid x w page h))
    (λ f. transfer_none x w page v (ltb-false page oam_pages f))

write_dma : (x : Fixed) (w : World) (v : ℕ) → write_at x 2 w 0xFF46 v ≡ dma x (put w 0xFF46 v) v
unfolding write_at copy_of
write_dma x w v = transfer_dma x (put w 0xFF46 v) v v

-- a byte write
unfoldable pub written : Fixed → World → ℕ → ℕ → World
written x w i v = cond (eqb i 0xFF46) (dma x (put w i v) v) (write_at x 2 w i v)

pub write_written : (x : Fixed) (w : World) (i v : ℕ) → write_at x 2 w i v ≡ written x w i v
unfolding written
write_written x w i v = by_index (eqb i 0xFF46) refl
  where
    by_index : (b : Bool) → eqb i 0xFF46 ≡ b → write_at x 2 w i v ≡ cond b (dma x (put w i v) v) (write_at x 2 w i v)
    by_index true e = rw (eqb-true i 0xFF46 e) (write_dma x w v)
    by_index false e = refl
