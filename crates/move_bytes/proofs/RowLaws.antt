-- Bytes within 256 from a multiple of 256, of an image and of what is lent with it: those of one region stand in a row (crates/mmu/proofs/Rows.antt).
use Rattle.std.proofs.Common.{◌≡◌, ℕ, ◌+◌, ◌-◌, ◌<◌, ◌≤◌, Bool, eqb, List, length, get_or, sym, refl, ap, ◌∙◌, arith, eqb-true}
use borrow.Author.Tests.{eqb-false}
use Rattle.std.proofs.lemmas.Grind.{common_steps}
use Rattle.image.proofs.OpenLaws.{load_length}
use Rattle.image.specs.Layout.{image_len}
use Rattle.image.specs.Load.{registers_in, load_call}
use Rattle.image.specs.Patches.{fields}
use Rattle.mbc.specs.PanDocs.{rom_place}
use Rattle.memory.proofs.Regions.{within, region_at}
use Rattle.memory.specs.Region.{region_of}
use Rattle.memory.specs.World.{Fixed}
use Rattle.memory.specs.declared.Core.{Core}
use Rattle.memory.specs.declared.region.Region.TheVariants.{Rom, Vram, Wram, Oam, Page}
use Rattle.mmu.proofs.Places.{ready_reaches}
use Rattle.mmu.proofs.Rows.{vram_row, wram_row, wram_row_fits, rom_place_row}
use Rattle.mmu.specs.Access.{Reaches}
use Rattle.mmu.specs.PanDocs.{vram_at, wram_at}
use Rattle.take_bytes.proofs.ByteLaws.{byte_rom, rom_place_below, byte_oam, byte_page}
use Rattle.registers.specs.Page.{plain_read, shown_as}
use Rattle.rules.proofs.Tests.{by_cond}
use Rattle.move_bytes.specs.Transfers.{Lent, Own, Row, Read}

-- a list that is filled from its first place on
abbrev pub Filled : List ℕ → (ℕ → ℕ) → ℕ → Type 0
Filled out g n = (k : ℕ) → k < n → get_or out k 0 ≡ g k

-- The byte of an image

module _ {x : Fixed} {i : List ℕ} {c : Core} {v w s : List ℕ} (l : Lent x i c v w s) where
  pub lent_length : length i ≡ image_len
  lent_length = load_length i l.number

  pub lent_reaches : Reaches c x.rom v w s
  lent_reaches = rw l.core (ready_reaches l.ready)

  pub own : Own x i v w s
  own = record { bytes = l.bytes; number = l.number; core = refl; ready = l.ready }

-- so for a state that is lent: the row of its selected bank
module _ {x : Fixed} {i : List ℕ} {c : Core} {v w s : List ℕ} (l : Lent x i c v w s) (source n : ℕ) (row : Row source n) where
  module _ (e : region_of source ≡ Vram) {at : ℕ} (a : at ≡ vram_at c.banks.vram source) where
    pub read_vram_fits : at + n ≤ length v
    read_vram_fits =
        let f = (lent_reaches l).vram in
        let b = within source e in
        let b₀ = b.0 in
        let b₁ = b.1 in
        omega arith

    pub read_vram : (out : List ℕ) → length out ≡ n → ((k : ℕ) → k < length out → get_or out k 0 ≡ get_or v (at + k) 0) → Read x i v w s source out
    read_vram out z f k h =
        f k h
        ∙ ap (λ (j : ℕ). get_or v (j + k) 0) (a ∙ ap (λ (d : Core). vram_at d.banks.vram source) l.core)
        ∙ vram_row x (load_call i).state v w s source n row e k (omega arith)

  module _ (e : region_of source ≡ Wram) {at : ℕ} (a : at ≡ wram_at c.banks.wram source) where
    pub read_wram_fits : at + n ≤ length w
    read_wram_fits =
        rw (a, l.core) (wram_row_fits x (load_call i).state v w s source n row e (ready_reaches l.ready).wram)

    pub read_wram : (out : List ℕ) → length out ≡ n → ((k : ℕ) → k < length out → get_or out k 0 ≡ get_or w (at + k) 0) → Read x i v w s source out
    read_wram out z f k h =
        f k h
        ∙ ap (λ (j : ℕ). get_or w (j + k) 0) (a ∙ ap (λ (d : Core). wram_at d.banks.wram source) l.core)
        ∙ wram_row x (load_call i).state v w s source n row e k (omega arith)

-- from FF80 on a byte of the page reads as it is
shown_high : (byte : ℕ) (cgb : Bool) (line pad : ℕ) (sound : List ℕ) (at : ℕ) → 0x80 ≤ at → shown_as byte cgb line pad sound at ≡ byte
unfolding shown_as plain_read
shown_high byte cgb line pad sound at h = grind (arith, common_steps)

module _ {x : Fixed} {i : List ℕ} {v w s : List ℕ} (l : Own x i v w s) (source n : ℕ) (row : Row source n) where
  module _ (h : source < 0x8000) {bank at : ℕ} (a : bank ≡ (registers_in (fields i)).rom) (e : at ≡ rom_place bank source) where
    abbrev selected : ℕ
    selected = (registers_in (fields i)).rom

    rom_at : (k : ℕ) → k < n → at + k ≡ rom_place selected (source + k)
    rom_at k g =
        ap (λ (j : ℕ). j + k) (e ∙ ap (λ (b : ℕ). rom_place b source) a) ∙ sym (rom_place_row selected source k (omega arith) h)

    pub read_rom_fits : at + n ≤ length x.rom
    read_rom_fits =
        let r = (lent_reaches l).rom in
        by_cond (λ (t : ℕ). at + n ≤ length x.rom) (eqb n 0) 0 0
        (λ z.
        let y = eqb-true n 0 z in
        let p : at ≡ rom_place selected source = e ∙ ap (λ (b : ℕ). rom_place b source) a in
        let q = rom_place_below i l.number l.bytes source (region_at Rom source h) in omega arith)
        (λ z.
        let y = eqb-false n 0 z in
        let p = rom_at (n - 1) (omega (arith, y)) in
        let q = rom_place_below i l.number l.bytes (source + (n - 1)) (region_at Rom (source + (n - 1)) (omega (arith, y))) in
        omega (arith, y))

    pub read_rom : (out : List ℕ) → length out ≡ n → ((k : ℕ) → k < length out → get_or out k 0 ≡ get_or x.rom (at + k) 0) → Read x i v w s source out
    read_rom out z f k g =
        f k g
        ∙ ap (λ (j : ℕ). get_or x.rom j 0) (rom_at k (omega arith))
        ∙ byte_rom i l.number l.bytes (source + k) x v w s (region_at Rom (source + k) (omega arith))

  -- OAM and high memory, in the image
  module _ {at : ℕ} (a : at ≡ source - 0xFE00) where
    pub read_own_fits : 0xFE00 ≤ source → source < 65536 → at + n ≤ length i
    read_own_fits b c = omega (arith, lent_length l)

    pub read_oam : region_of source ≡ Oam → (out : List ℕ) → length out ≡ n → ((k : ℕ) → k < length out → get_or out k 0 ≡ get_or i (at + k) 0)
        → Read x i v w s source out
    read_oam e out z f k g =
        let b = within source e in
        let b₀ = b.0 in
        let b₁ = b.1 in
        let p : at + k ≡ source + k - 0xFE00 = omega arith in
        f k g
        ∙ ap (λ (j : ℕ). get_or i j 0) p
        ∙ byte_oam i l.number l.bytes (source + k) x v w s (region_at Oam (source + k) (omega arith, omega arith))

    pub read_high : 0xFF80 ≤ source → source < 65536 → (out : List ℕ) → length out ≡ n → ((k : ℕ) → k < length out → get_or out k 0 ≡ get_or i (at + k) 0)
        → Read x i v w s source out
    read_high b c out z f k g =
        let p : at + k ≡ source + k - 0xFE00 = omega arith in
        f k g
        ∙ ap (λ (j : ℕ). get_or i j 0) p
        ∙ sym (shown_high _ _ _ _ _ (source + k - 0xFF00) (omega arith))
        ∙ byte_page i l.number l.bytes (source + k) x v w s (region_at Page (source + k) (omega arith)) (omega arith)
