-- A byte read on the image itself: it is in a lent memory or in the image. And the number: the image's or, of an image that is taken, the lengths'.
use mathlib.Core.Bool.{Bool, true, cond}
use mathlib.Core.Logic.{◌⊎◌, inl, inr}
use mathlib.Core.List.{List, []}
use mathlib.Core.Path.{◌≡◌, refl, sym, ap, subst, ◌∙◌}
use Prim.Native.Nat.{ℕ, ◌+◌, ◌*◌, ◌-◌, ◌<◌, ◌≤◌}
use native.Mathlib.Omega.{arith}
use lib.ListN.{length, get_or}
use borrow.Author.Tests.{eq-eqb}
use Rattle.image.proofs.FieldLaws.{fields_in}
use Rattle.image.proofs.GroupPatches.{loaded_core}
use Rattle.image.proofs.LoadLaws.{surely_loads}
use Rattle.image.proofs.LoadedPatches.{loaded_typed, loaded_storable}
use Rattle.image.proofs.OpenLaws.{load_length, load_range, load_image, load_oam, load_page}
use Rattle.image.proofs.Round.{values_back, fields_of_values}
use Rattle.image.specs.Layout.{field_values}
use Rattle.image.specs.Load.{banks_of, lcd_of, joypad_of, cartridge_of, registers_in, at, all_fields_in, values_of, load_call}
use Rattle.image.specs.Patches.{fields, MapperFits, RestFits}
use Rattle.mbc.proofs.Sources.{in_rom, rom_within, ram_read}
use Rattle.mbc.specs.Mbc.{mapper_of, rom_bank, rom_len, ram_len, ram_source, byte_of, in_range}
use Rattle.mbc.specs.PanDocs.{rom_place}
use Rattle.memory.proofs.Laws.{range_mapper}
use Rattle.memory.proofs.Regions.{within, region_at}
use Rattle.memory.specs.Ranges.{sound_len, state_in_range}
use Rattle.memory.specs.Region.{region_of}
use Rattle.memory.specs.World.{world, Fixed}
use Rattle.memory.specs.declared.Core.{Core}
use Rattle.memory.specs.declared.Memory.{Memory}
use Rattle.memory.specs.declared.region.Region.{Region}
use Rattle.memory.specs.declared.region.Region.TheVariants.{Rom, Vram, Save, Wram, Oam, Page}
use Rattle.mmu.proofs.Places.{read_by, holds_vram, holds_wram}
use Rattle.mmu.specs.Access.{Ready, read_byte}
use Rattle.mmu.specs.PanDocs.{vram_at, wram_at}
use Rattle.packing.specs.Packing.{Below}
use Rattle.refusals.proofs.Answers.{range_state}
use Rattle.refusals.proofs.Core.{read_lengths}
use Rattle.refusals.specs.Refusal.{or_else, read_refused, refused_read, lengths_are, lengths_fit, lengths_refused}
use Rattle.registers.proofs.Rest.{colour_shown}
use Rattle.registers.specs.Page.{line_read, shown_as, read_register}
use Rattle.take_bytes.specs.Bytes.{Lent, Others, Reached, Near}

-- the number: of the image first, then of the lengths

module _ (i : List ℕ) {n : ℕ} (e : n ≡ (load_call i).number) (rom vram wram save sound : ℕ) where
  abbrev Number : ℕ → Type 0
  Number k = k ≡ or_else (load_call i).number (read_refused (load_call i).state rom vram wram save sound)

  pub number_lengths : n ≡ 0 → Below 256 i → {k : ℕ} → k ≡ lengths_refused (load_call i).state.core rom vram wram save sound → Number k
  unfolding or_else
  number_lengths z b f =
      let t : (load_call i).number ≡ 0 = sym e ∙ z in
      f ∙ sym (read_lengths (load_call i).state (load_range i t b) rom vram wram save sound) ∙ rw t

-- high memory reads as it is stored
high_shown : (byte : ℕ) (cgb : Bool) (line pad : ℕ) (sound : List ℕ) (at : ℕ) → 0x80 ≤ at → shown_as byte cgb line pad sound at ≡ byte
high_shown byte cgb line pad sound at h =
    colour_shown byte cgb line pad sound at (omega arith) (λ e. omega arith) (λ e. omega arith) (λ e. omega arith) (λ e. omega arith) (λ e. omega arith)
    (λ e. omega arith) (λ e. omega arith)

-- the groups of an image that is taken

module _ (i : List ℕ) (z : (load_call i).number ≡ 0) (b : Below 256 i) where
  abbrev state : Memory
  state = (load_call i).state

  pub lengths_by : (rom vram wram save sound : ℕ) {t : Bool}
      → t ≡ lengths_are (banks_of (fields i)).colour (cartridge_of (fields i)) (mapper_of (registers_in (fields i))) rom vram wram save sound
      → cond t 0 4 ≡ lengths_refused state.core rom vram wram save sound
  unfolding lengths_refused lengths_fit
  lengths_by rom vram wram save sound e = rw (loaded_core i b z, e)

  range : state_in_range state ≡ true
  range = range_state state _ (load_range i z b)

  fields_are : fields i ≡ field_values state.core
  fields_are =
      let m = state in
      let t = loaded_typed i b z in
      let h = loaded_storable i b z in
      sym (fields_in i (load_length i z))
      ∙ ap (λ (l : List ℕ). all_fields_in (values_of l)) (sym (load_image i z b))
      ∙ ap all_fields_in (values_back m t h)
      ∙ fields_of_values m t h

  rom_bank_law : (registers_in (fields i)).rom ≡ rom_bank state.core.mapper
  rom_bank_law = ap (λ (fs : List ℕ). at fs 23) fields_are

  -- the byte

  module _ (index : ℕ) where
    pub byte_oam : (x : Fixed) (v w s : List ℕ) → region_of index ≡ Oam → get_or i (index - 0xFE00) 0 ≡ read_byte x state v w s index
    byte_oam x v w s q =
        let h = within index q in
        read_by x state v w s index q (sym (load_oam i z b (index - 0xFE00) (omega (arith, h.0, h.1))))

    pub byte_page : (x : Fixed) (v w s : List ℕ) → region_of index ≡ Page → index < 65536
        → shown_as (get_or i (index - 0xFE00) 0) (banks_of (fields i)).colour (line_read (lcd_of (fields i))) (joypad_of (fields i)).state x.sound (index - 0xFF00)
        ≡ read_byte x state v w s index
    unfolding read_register
    byte_page x v w s q h =
        let l : 0xFF00 ≤ index = within index q in
        let p : 256 + (index - 0xFF00) ≡ index - 0xFE00 = omega arith in
        let g : get_or i (index - 0xFE00) 0 ≡ get_or state.page (index - 0xFF00) 0 =
        ap (λ (k : ℕ). get_or i k 0) (sym p) ∙ sym (load_page i z b (index - 0xFF00) (omega arith)) in
        read_by x state v w s index q (rw (g, loaded_core i b z))

    pub byte_high : (x : Fixed) (v w s : List ℕ) → index < 65536 → 0xFF80 ≤ index → get_or i (index - 0xFE00) 0 ≡ read_byte x state v w s index
    byte_high x v w s h p =
        sym (high_shown (get_or i (index - 0xFE00) 0) (banks_of (fields i)).colour (line_read (lcd_of (fields i))) (joypad_of (fields i)).state x.sound (index - 0xFF00) (omega arith))
        ∙ byte_page x v w s (region_at Page index (omega arith)) h

    pub byte_save : (x : Fixed) (v w s : List ℕ) → region_of index ≡ Save
        → byte_of [] s (ram_source (cartridge_of (fields i)) (mapper_of (registers_in (fields i))) index) ≡ read_byte x state v w s index
    byte_save x v w s q =
        let h = within index q in
        let r : in_range state.core.cartridge state.core.mapper ≡ true = range_mapper state range in
        read_by x state v w s index q
        (ap (λ (c : Core). byte_of [] s (ram_source c.cartridge c.mapper index)) (sym (loaded_core i b z))
        ∙ ram_read state.core.cartridge state.core.mapper index r h.0 h.1 x.rom s)

    pub byte_rom : (x : Fixed) (v w s : List ℕ) → region_of index ≡ Rom
        → get_or x.rom (rom_place (registers_in (fields i)).rom index) 0 ≡ read_byte x state v w s index
    byte_rom x v w s q =
        read_by x state v w s index q
        (ap (λ (k : ℕ). get_or x.rom (rom_place k index) 0) rom_bank_law
        ∙ rw (in_rom state.core.cartridge state.core.mapper index (within index q)))

    pub rom_place_below : region_of index ≡ Rom → rom_place (registers_in (fields i)).rom index < rom_len state.core.cartridge
    rom_place_below q = rw rom_bank_law (rom_within state.core.cartridge state.core.mapper index (range_mapper state range) (within index q))

    pub byte_vram : (x : Fixed) (v w s : List ℕ) → region_of index ≡ Vram
        → get_or v (vram_at (banks_of (fields i)).vram index) 0 ≡ read_byte x state v w s index
    byte_vram x v w s q = read_by x state v w s index q (rw (loaded_core i b z))

    pub byte_wram : (x : Fixed) (v w s : List ℕ) → region_of index ≡ Wram
        → get_or w (wram_at (banks_of (fields i)).wram index) 0 ≡ read_byte x state v w s index
    byte_wram x v w s q = read_by x state v w s index q (rw (loaded_core i b z))

  pub mapper_range : in_range (cartridge_of (fields i)) (mapper_of (registers_in (fields i))) ≡ true
  mapper_range = subst (λ (c : Core). in_range c.cartridge c.mapper ≡ true) (loaded_core i b z) (range_mapper state range)

  pub save_length : (n : ℕ) → n ≡ ram_len state.core.cartridge state.core.mapper → n ≡ ram_len (cartridge_of (fields i)) (mapper_of (registers_in (fields i)))
  save_length n h = subst (λ (c : Core). n ≡ ram_len c.cartridge c.mapper) (loaded_core i b z) h

  module _ {x : Fixed} {v w s : List ℕ} (r : Ready x (world state v w s [])) where
    pub vram_reaches : (banks_of (fields i)).vram * 0x2000 + 0x2000 ≤ length v
    vram_reaches = subst (λ (c : Core). c.banks.vram * 0x2000 + 0x2000 ≤ length v) (loaded_core i b z) (holds_vram r.holds)

    pub wram_reaches : (0x1000 ≤ length w) × ((banks_of (fields i)).wram * 0x1000 + 0x1000 ≤ length w)
    wram_reaches =
        subst (λ (c : Core). (0x1000 ≤ length w) × (c.banks.wram * 0x1000 + 0x1000 ≤ length w)) (loaded_core i b z) (holds_wram r.holds)

    pub ready_reached : Reached i x.rom v w
    ready_reached = record { number = z; rom = r.rom; vram = vram_reaches; wram = wram_reaches }

    pub ready_lent : Lent i s x.sound
    ready_lent = record { number = z; save = r.holds.save; sound = omega (arith, r.sound) }

-- the tests that are enough

module _ (x : Fixed) (i v w s : List ℕ) (b : Below 256 i)
    (p : MapperFits i (length x.rom) (length s)) (q : RestFits i (length v) (length w)) (h : length x.sound ≡ sound_len) where
  pub surely_loaded : (load_call i).number ≡ 0
  surely_loaded = surely_loads i b p q

  lengths_right : true
      ≡ lengths_are (banks_of (fields i)).colour (cartridge_of (fields i)) (mapper_of (registers_in (fields i))) (length x.rom) (length v) (length w) (length s) (length x.sound)
  lengths_right =
      rw (eq-eqb _ _ p.rom, eq-eqb _ _ q.machine.vram, eq-eqb _ _ q.machine.wram, eq-eqb _ _ p.save, eq-eqb _ _ h)

  pub surely_passes : 0 ≡ or_else (load_call i).number (refused_read x (world (load_call i).state v w s []))
  surely_passes =
      number_lengths i (sym surely_loaded) _ _ _ _ _ refl b (lengths_by i surely_loaded b _ _ _ _ _ lengths_right)

-- what the arm `_` of a `match` tells

others : (r : Region) → (r ≡ Rom → ⊥) → (r ≡ Vram → ⊥) → (r ≡ Wram → ⊥) → Others r
others Rom a b c = absurd (a refl)
others Vram a b c = absurd (b refl)
others Save a b c = tt
others Wram a b c = absurd (c refl)
others Oam a b c = tt
others Page a b c = tt

near : (r : Region) → (r ≡ Save → ⊥) → (r ≡ Oam → ⊥) → (r ≡ Page → ⊥) → Near r
near Rom a b c = tt
near Vram a b c = tt
near Save a b c = absurd (a refl)
near Wram a b c = tt
near Oam a b c = absurd (b refl)
near Page a b c = absurd (c refl)

pub near_left : {r q : Region} → r ≡ q → (r ≡ Save → ⊥) → (r ≡ Oam → ⊥) → (r ≡ Page → ⊥) → Near q
near_left {r} e a b c = subst Near e (near r a b c)

pub rom_near : (index : ℕ) → index < 0x8000 → Near (region_of index)
rom_near index h = subst Near (sym (region_at Rom index h)) tt

wram_in : (r : Region) → Near r → (r ≡ Rom → ⊥) → (r ≡ Vram → ⊥) → r ≡ Wram
wram_in Rom h a b = absurd (a refl)
wram_in Vram h a b = absurd (b refl)
wram_in Save h a b = absurd h
wram_in Wram h a b = refl
wram_in Oam h a b = absurd h
wram_in Page h a b = absurd h

pub wram_left : {r q : Region} → r ≡ q → Near q → (r ≡ Rom → ⊥) → (r ≡ Vram → ⊥) → q ≡ Wram
wram_left {r} e h a b = sym e ∙ wram_in r (subst Near (sym e) h) a b

pub others_left : {r q : Region} → r ≡ q → (r ≡ Rom → ⊥) → (r ≡ Vram → ⊥) → (r ≡ Wram → ⊥) → Others q
others_left {r} e a b c = subst Others e (others r a b c)

save_in : (r : Region) → Others r → (r ≡ Oam → ⊥) → (r ≡ Page → ⊥) → r ≡ Save
save_in Rom h a b = absurd h
save_in Vram h a b = absurd h
save_in Save h a b = refl
save_in Wram h a b = absurd h
save_in Oam h a b = absurd (a refl)
save_in Page h a b = absurd (b refl)

pub save_left : {r q : Region} → r ≡ q → Others q → (r ≡ Oam → ⊥) → (r ≡ Page → ⊥) → q ≡ Save
save_left {r} e h a b = sym e ∙ save_in r (subst Others (sym e) h) a b

-- what an arm of three regions tells

pub others_of : {r q : Region} → r ≡ q → (r ≡ Save) ⊎ ((r ≡ Oam) ⊎ (r ≡ Page)) → Others q
others_of e (inl a) = subst Others (sym a ∙ e) tt
others_of e (inr (inl a)) = subst Others (sym a ∙ e) tt
others_of e (inr (inr a)) = subst Others (sym a ∙ e) tt

pub near_of : {r q : Region} → r ≡ q → (r ≡ Rom) ⊎ ((r ≡ Vram) ⊎ (r ≡ Wram)) → Near q
near_of e (inl a) = subst Near (sym a ∙ e) tt
near_of e (inr (inl a)) = subst Near (sym a ∙ e) tt
near_of e (inr (inr a)) = subst Near (sym a ∙ e) tt
