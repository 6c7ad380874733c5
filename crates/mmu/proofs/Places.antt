-- A byte read and a byte write by the region of the index; and the bounds that a state in range gives.
use Rattle.std.proofs.Common.{◌≡◌, ℕ, ◌+◌, ◌-◌, ◌*◌, ◌<◌, ◌≤◌, Bool, true, false, cond, ltb, Option, Some, None, ◌⊎◌, List, [], length, set, sym, refl, ap, ◌∙◌, inl, inr, ⊎_elim, arith, lit≤, ltb-false, ltb-true}
use Rattle.rules.proofs.Tests.{by_cond, cond_both, cond_false, cond_true}
use Rattle.mbc.proofs.Laws.{mapped_rom, mapped_ram, stored_within}
use Rattle.mbc.specs.Mbc.{mapped, read_at, after, answer, in_range, ram_len}
use Rattle.mbc.specs.declared.cartridge.Cartridge.{Cartridge}
use Rattle.mbc.specs.declared.mbc.Stored.{Stored}
use Rattle.mbc.specs.declared.mbc.Mapper.{Mapper}
use Rattle.memory.proofs.Laws.{range_banks, range_mapper, vram_fits, wram_fits}
use Rattle.memory.proofs.Regions.{Within, within}
use Rattle.memory.specs.Region.{region_of}
use Rattle.memory.specs.World.{World, world, Fixed, with_mapper, with_used}
use Rattle.memory.specs.declared.Memory.{Memory}
use Rattle.memory.specs.declared.region.Region.{Region}
use Rattle.memory.specs.declared.region.Region.TheVariants.{Rom, Vram, Save, Wram, Oam, Page}
use Rattle.registers.specs.Page.{write_register}
use Rattle.savelog.specs.Log.{width, appended, full}
use Rattle.mmu.specs.PanDocs.{echo, vram_at, wram_at}
use Rattle.mmu.specs.Access.{Holds, Ready, Reaches, byte_in, read_byte, mapper_put, Lands, saved, save_put, in_state, in_vram, in_wram, put_in, put}

-- bounds: what a world that holds gives the regions

module _ {w : World} (h : Holds w) where
  pub holds_mapper : in_range w.state.core.cartridge w.state.core.mapper ≡ true
  holds_mapper = range_mapper w.state h.state

  pub holds_vram : w.state.core.banks.vram * 0x2000 + 0x2000 ≤ length w.vram
  holds_vram = rw h.vram (vram_fits w.state.core.banks (range_banks w.state h.state))

  pub holds_wram : (0x1000 ≤ length w.wram) × (w.state.core.banks.wram * 0x1000 + 0x1000 ≤ length w.wram)
  holds_wram =
      rw h.wram (
        cond_both (λ (n : ℕ). 0x1000 ≤ n) w.state.core.banks.colour (lit≤ tt) (lit≤ tt),
        wram_fits w.state.core.banks (range_banks w.state h.state),
      )

-- work memory: both banks lie within, and so do their echoes
pub echo_within : (i : ℕ) → 0xC000 ≤ i → i < 0xFE00 → (0xC000 ≤ echo i) × (echo i < 0xE000)
unfolding echo
echo_within i a b =
    by_cond (λ (k : ℕ). (0xC000 ≤ k) × (k < 0xE000)) (ltb i 0xE000) i (i - 0x2000) (λ t. (a, ltb-true i 0xE000 t))
    (λ f. let c = ltb-false i 0xE000 f in (omega arith, omega arith))

pub wram_below : (bank i n : ℕ) → 0xC000 ≤ i → i < 0xFE00 → 0x1000 ≤ n → bank * 0x1000 + 0x1000 ≤ n → wram_at bank i < n
unfolding wram_at
wram_below bank i n a b p q =
    let k = echo i in
    let h = echo_within i a b in
    by_cond (λ (j : ℕ). j < n) (ltb k 0xD000) (k - 0xC000) (k - 0xD000 + bank * 0x1000) (λ t. omega (arith, h, ltb-true k 0xD000 t))
    (λ f. omega (arith, h, ltb-false k 0xD000 f))

-- reads

pub ready_reaches : {x : Fixed} {w : World} → Ready x w → Reaches w.state.core x.rom w.vram w.wram w.save
ready_reaches r =
    record {
      mapper = holds_mapper r.holds;
      rom = r.rom;
      save = r.holds.save;
      vram = holds_vram r.holds;
      wram = holds_wram r.holds;
    }

pub read_by : (x : Fixed) (m : Memory) (v w s : List ℕ) (i : ℕ) {r : Region} → region_of i ≡ r → {b : ℕ} → b ≡ byte_in r x m v w s i
    → b ≡ read_byte x m v w s i
read_by x m v w s i e p = p ∙ ap (λ (r : Region). byte_in r x m v w s i) (sym e)

-- the arm `_` of a `match`: which regions are left

lent_in : (r : Region) (i : ℕ) → Within r i → (r ≡ Oam → ⊥) → (r ≡ Page → ⊥) → i < 0xFE00
lent_in Rom i h o p = omega arith
lent_in Vram i h o p = omega (arith, h.1)
lent_in Save i h o p = omega (arith, h.1)
lent_in Wram i h o p = h.1
lent_in Oam i h o p = absurd (o refl)
lent_in Page i h o p = absurd (p refl)

-- neither OAM nor page
pub lent_below : (i : ℕ) {r : Region} → region_of i ≡ r → (r ≡ Oam → ⊥) → (r ≡ Page → ⊥) → i < 0xFE00
lent_below i {r} e o p = lent_in r i (within i e) o p

-- of what is lent, neither video nor work memory
mapped_in : (r : Region) (i : ℕ) → Within r i → i < 0xFE00 → (r ≡ Vram → ⊥) → (r ≡ Wram → ⊥) → (r ≡ Rom) ⊎ (r ≡ Save)
mapped_in Rom i h l v w = inl refl
mapped_in Vram i h l v w = absurd (v refl)
mapped_in Save i h l v w = inr refl
mapped_in Wram i h l v w = absurd (w refl)
mapped_in Oam i h l v w = absurd (omega (arith, h.0))
mapped_in Page i h l v w = absurd (omega arith)

module _ (i : ℕ) {r : Region} (e : region_of i ≡ r) (l : i < 0xFE00) (not_vram : r ≡ Vram → ⊥) (not_wram : r ≡ Wram → ⊥) where
  pub mapped_by : mapped i ≡ true
  mapped_by =
      ⊎_elim (λ q. mapped_rom i (within i (e ∙ q))) (λ q. let b = within i (e ∙ q) in mapped_ram i b.0 b.1)
      (mapped_in r i (within i e) l not_vram not_wram)

  pub read_mapped : (x : Fixed) (m : Memory) (v w s : List ℕ) {b : ℕ} → b ≡ read_at m.core.cartridge m.core.mapper x.rom s i
      → b ≡ read_byte x m v w s i
  read_mapped x m v w s p =
      ⊎_elim (λ q. read_by x m v w s i (e ∙ q) p) (λ q. read_by x m v w s i (e ∙ q) p) (mapped_in r i (within i e) l not_vram not_wram)

-- the save, of every state with this cartridge, mapper and log use: what an answer does, and a write, with a full log and with room

pub answer_lands : (c : Cartridge) (t : Mapper) (i v : ℕ) {k : Option Stored} {n : ℕ} → v < 256 → k ≡ answer c t i v → n ≡ ram_len c t → Lands k n
answer_lands c t i v h a n k e = let w = stored_within c t i v k h (sym a ∙ e) in (omega (arith, w.0), w.1.0)

module _ (m : Memory) {used : ℕ} (e : m.core.used ≡ used) (s l : List ℕ) where
  pub answered_none : {k : Option Stored} → k ≡ None → world (with_used m used) [] [] s l ≡ saved k (world m [] [] s l)
  answered_none a = rw (a, ← e)

  pub answered_stored : {k : Option Stored} (b : Stored) {r : ℕ} {z : List ℕ} → k ≡ Some b → r ≡ used + width → z ≡ appended l used b.at b.value
      → world (with_used m r) [] [] (set s b.at b.value) z ≡ saved k (world m [] [] s l)
  answered_stored b a x z = rw (a, x, z, ← e)

module _ (m : Memory) {c : Cartridge} {t : Mapper} {used : ℕ} (p : m.core.cartridge ≡ c) (q : m.core.mapper ≡ t) (e : m.core.used ≡ used) (s l : List ℕ)
    (i v : ℕ) where
  pub save_full : full (length l) used 1 ≡ true → world (with_used (with_mapper m t) used) [] [] s l ≡ save_put (world m [] [] s l) i v
  unfolding save_put
  save_full a =
      let b : full (length l) m.core.used 1 ≡ true = rw e a in
      rw (← e, ← q) (sym (cond_true _ _ _ b))

  pub save_done : {k : Option Stored} {o : Mapper} {r : ℕ} {y z : List ℕ} → full (length l) used 1 ≡ false → o ≡ after c t i v → k ≡ answer c t i v
      → ((n : Memory) → n.core.used ≡ used → world (with_used n r) [] [] y z ≡ saved k (world n [] [] s l))
      → world (with_used (with_mapper m o) r) [] [] y z ≡ save_put (world m [] [] s l) i v
  unfolding save_put
  save_done {k} {o} a f g h =
      let b : full (length l) m.core.used 1 ≡ false = rw e a in
      let n : o ≡ after m.core.cartridge m.core.mapper i v = rw (p, q) f in
      let d : k ≡ answer m.core.cartridge m.core.mapper i v = rw (p, q) g in
      h (with_mapper m o) e ∙ rw (n, d) (sym (cond_false _ _ _ b))

-- the state, the save and the log of one world, with the memories of another
abbrev beside : World → World → World
beside w u = world u.state w.vram w.wram u.save u.log

abbrev alone : World → World
alone w = world w.state [] [] w.save w.log

beside_cond : (t : Bool) (a : Option Stored) (w : World) (m : Memory)
    → beside w (cond t (alone w) (saved a (in_state (alone w) m))) ≡ cond t w (saved a (in_state w m))
beside_cond true a w m = refl
beside_cond false a w m = refl

save_apart : (w : World) (i v : ℕ) → beside w (save_put (alone w) i v) ≡ save_put w i v
unfolding save_put
save_apart w i v =
    beside_cond (full (length w.log) w.state.core.used 1) (answer w.state.core.cartridge w.state.core.mapper i v) w (mapper_put w.state i v)

-- writes

module _ (w : World) (i v : ℕ) where
  pub put_by : {r : Region} → region_of i ≡ r → {u : World} → u ≡ put_in r w i v → u ≡ put w i v
  put_by e p = p ∙ ap (λ (r : Region). put_in r w i v) (sym e)

  pub put_rom : region_of i ≡ Rom → {m : Memory} → m ≡ mapper_put w.state i v → in_state w m ≡ put w i v
  put_rom e p = put_by e (ap (in_state w) p)

  pub put_vram : region_of i ≡ Vram → {l : List ℕ} → l ≡ set w.vram (vram_at w.state.core.banks.vram i) v → in_vram w l ≡ put w i v
  put_vram e p = put_by e (ap (in_vram w) p)

  pub put_save : region_of i ≡ Save → {m : Memory} {s l : List ℕ} → world m [] [] s l ≡ save_put (alone w) i v
      → world m w.vram w.wram s l ≡ put w i v
  put_save e p = put_by e (ap (beside w) p ∙ save_apart w i v)

  pub put_wram : region_of i ≡ Wram → {l : List ℕ} → l ≡ set w.wram (wram_at w.state.core.banks.wram i) v → in_wram w l ≡ put w i v
  put_wram e p = put_by e (ap (in_wram w) p)

  pub put_register : region_of i ≡ Page → {m : Memory} → m ≡ write_register w.state (i - 0xFF00) v → in_state w m ≡ put w i v
  put_register e p = put_by e (ap (in_state w) p)
