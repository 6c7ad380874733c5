-- A byte put on an image that is taken: what the parts of src/lib.rt ask for, what each region's part leaves, and that the next finds an image that is taken.
use mathlib.Core.Bool.{true}
use mathlib.Core.List.{List, [], ◌∷◌}
use mathlib.Core.Path.{◌≡◌, refl, sym, ap, subst, ◌∙◌}
use Prim.Native.Nat.{ℕ, ◌+◌, ◌*◌, ◌-◌, ◌<◌, ◌≤◌}
use lib.ListN.{length, set}
use Rattle.image.proofs.LoadedPatches.{loaded_typed, loaded_storable, loaded_mapping}
use Rattle.image.proofs.MappedLaws.{load_mapped}
use Rattle.image.proofs.OpenLaws.{load_length, load_image}
use Rattle.image.proofs.PatchLaws.{slim, mapping_kept}
use Rattle.image.proofs.StateLaws.{storable_state}
use Rattle.image.proofs.Round.{state_back}
use Rattle.image.specs.Laws.{Typed}
use Rattle.image.specs.Layout.{image_len, image_of, field_widths, used_field}
use Rattle.image.specs.Load.{registers_in, storable, load_call}
use Rattle.image.specs.Patches.{fields, front, Mapped, Slim, used_put, mapping_put}
use Rattle.image.specs.Load.{Loaded}
use Rattle.in_place.proofs.Fine.{typed_fine}
use Rattle.in_place.proofs.Images.{core}
use Rattle.in_place.specs.Held.{Held}
use Rattle.mbc.proofs.Laws.{kind_after}
use Rattle.mbc.proofs.RegisterLaws.{registers_of_mapper}
use Rattle.mbc.specs.Mbc.{in_range, ram_len, after, sound, registers_of}
use Rattle.mbc.specs.declared.held.Registers.{Registers}
use Rattle.mbc.specs.declared.mbc.Mapper.{Mapper}
use Rattle.memory.proofs.Laws.{mapper_kept}
use Rattle.memory.specs.Region.{region_of}
use Rattle.memory.specs.World.{World, world}
use Rattle.memory.specs.declared.Core.{Core}
use Rattle.memory.specs.declared.Memory.{Memory}
use Rattle.memory.specs.declared.region.Region.TheVariants.{Rom, Vram, Save, Wram, Oam, Page}
use Rattle.mmu.proofs.Laws.{Stays, put_stays}
use Rattle.mmu.proofs.Places.{holds_vram, holds_wram, put_rom, put_vram, put_save, put_wram, put_register}
use Rattle.mmu.specs.Access.{Holds, mapper_put, put}
use Rattle.mmu.specs.PanDocs.{vram_at, wram_at}
use Rattle.packing.specs.Packing.{Below}
use Rattle.places.proofs.Puts.{put_own}
use Rattle.registers.specs.Page.{write_register}
use Rattle.rules.proofs.Tests.{both_true}
use Rattle.savelog.specs.Log.{use_in_range}
use Rattle.put_bytes.specs.Left.{Left, left, world_of, left_by}
use Rattle.put_bytes.specs.Puts.{Taken, core_in, own_put, Saved}
use Rattle.put_bytes.proofs.Storable.{parts, joins, stays_storable}
use Rattle.put_bytes.proofs.Typed.{put_typed, own_oam}
use Rattle.put_bytes.proofs.Whole.{Whole}

-- the image and the memories of what a write leaves
as_left : (w : World) (index b : ℕ) {u : World} {j : List ℕ} → u ≡ put w index b → j ≡ image_of u.state
    → left 0 0 j u.vram u.wram u.save u.log ≡ left_by (put w index b)
as_left w index b e f = rw f (ap left_by e)

-- a write to the mapper, wherever it goes
pub mapper_storable : (m : Memory) → storable m ≡ true → (index b : ℕ) → storable (mapper_put m index b) ≡ true
mapper_storable m h index b = let p = parts m h in joins (mapper_put m index b) (mapper_kept m p.0 index b) p.1

-- an image whose mapper is in range
module _ (l : List ℕ) (m : Mapped l) where
  pub mapped_sound : sound (registers_in (fields l)) ≡ true
  mapped_sound = (both_true (sound (registers_in (fields l))) _ m.mapper).0

  pub mapped_range : in_range (core_in l).cartridge (core_in l).mapper ≡ true
  mapped_range = (both_true (sound (registers_in (fields l))) _ m.mapper).1

  pub mapped_kind : (at v : ℕ) → (registers_of (after (core_in l).cartridge (core_in l).mapper at v)).kind ≡ (registers_in (fields l)).kind
  mapped_kind at v =
      kind_after (core_in l).cartridge (core_in l).mapper at v
      ∙ ap (λ (r : Registers). r.kind) (registers_of_mapper (registers_in (fields l)) mapped_sound)

  -- its own mapper and use, put again
  pub mapped_kept : Below 256 l → {p : Mapper} {u : ℕ} → p ≡ (core_in l).mapper → u ≡ (core_in l).used → l ≡ mapping_put l p u
  unfolding used_put
  mapped_kept b {p} {u} e f =
      sym
      (mapping_kept l b p u e mapped_sound
      ∙ ap (used_put l) f
      ∙ put_own l b front field_widths (used_field ∷ []) [])

module _ {i v w s l : List ℕ} (t : Taken i v w s l) where
  taken_storable : storable (load_call i).state ≡ true
  taken_storable = loaded_storable i t.bytes t.number

  taken_typed : Typed (load_call i).state
  taken_typed = loaded_typed i t.bytes t.number

  taken_image : i ≡ image_of (load_call i).state
  taken_image = sym (load_image i t.number t.bytes)

  put_storable : (index b : ℕ) → storable (put (world_of i v w s l) index b).state ≡ true
  put_storable index b =
      let W = world_of i v w s l in
      stays_storable W t.used (put W index b) (put_stays W t.holds index b)

  left_storable : (index b : ℕ) {u : World} → u ≡ put (world_of i v w s l) index b → storable u.state ≡ true
  left_storable index b e = ap (λ (a : World). storable a.state) e ∙ put_storable index b

  pub taken_held : Held i
  taken_held = (t.bytes, t.number)

  pub taken_mapped : Mapped i
  taken_mapped = load_mapped i t.bytes t.number

  pub taken_length : length i ≡ image_len
  taken_length = load_length i t.number

  pub taken_core : core_in i ≡ (load_call i).state.core
  taken_core = core i taken_held

  -- what the parts ask for, of the state without its arrays
  module _ {c : Core} (e : c ≡ (load_call i).state.core) where
    pub after_slim : (k b : ℕ) → Slim (after c.cartridge c.mapper k b)
    after_slim k b = rw e (slim (mapper_put (load_call i).state k b) (mapper_storable (load_call i).state taken_storable k b))

    pub taken_save : length s ≡ ram_len c.cartridge c.mapper
    taken_save = rw e t.holds.save

    pub taken_vram : c.banks.vram * 0x2000 + 0x2000 ≤ length v
    taken_vram = rw e (holds_vram t.holds)

    pub taken_wram : (0x1000 ≤ length w) × (c.banks.wram * 0x1000 + 0x1000 ≤ length w)
    taken_wram = rw e (holds_wram t.holds)

    -- each region
    module _ (index b : ℕ) where
      pub left_rom : region_of index ≡ Rom → {j : List ℕ} → j ≡ mapping_put i (after c.cartridge c.mapper index b) c.used
          → left 0 0 j v w s l ≡ left_by (put (world_of i v w s l) index b)
      left_rom q f =
          let m = (load_call i).state in
          let p = put_rom (world_of i v w s l) index b q refl in
          as_left (world_of i v w s l) index b p
          (f
          ∙ ap (λ (d : Core). mapping_put i (after d.cartridge d.mapper index b) d.used) e
          ∙ loaded_mapping i t.bytes t.number (after m.core.cartridge m.core.mapper index b) m.core.used (left_storable index b p))

      pub left_vram : region_of index ≡ Vram → {j : List ℕ} → j ≡ set v (vram_at c.banks.vram index) b
          → left 0 0 i j w s l ≡ left_by (put (world_of i v w s l) index b)
      left_vram q f =
          as_left (world_of i v w s l) index b (put_vram (world_of i v w s l) index b q (f ∙ ap (λ (d : Core). set v (vram_at d.banks.vram index) b) e)) taken_image

      pub left_save : region_of index ≡ Save → {j s' l' : List ℕ} → Saved i s l index b j s' l' → left 0 0 j v w s' l' ≡ left_by (put (world_of i v w s l) index b)
      left_save q n =
          let m = (load_call i).state in
          let f = sym taken_core in
          let y = put_save (world_of i v w s l) index b q
          (n.saved m (ap (λ (d : Core). d.cartridge) f) (ap (λ (d : Core). d.mapper) f) (ap (λ (d : Core). d.used) f)) in
          as_left (world_of i v w s l) index b y (n.image ∙ loaded_mapping i t.bytes t.number n.mapper n.used (left_storable index b y))

      pub left_wram : region_of index ≡ Wram → {j : List ℕ} → j ≡ set w (wram_at c.banks.wram index) b
          → left 0 0 i v j s l ≡ left_by (put (world_of i v w s l) index b)
      left_wram q f =
          as_left (world_of i v w s l) index b (put_wram (world_of i v w s l) index b q (f ∙ ap (λ (d : Core). set w (wram_at d.banks.wram index) b) e)) taken_image

      pub left_oam : region_of index ≡ Oam → b < 256 → {j : List ℕ} → j ≡ own_put i index b → left 0 0 j v w s l ≡ left_by (put (world_of i v w s l) index b)
      left_oam q z f =
          let o = own_oam (world_of i v w s l) taken_typed taken_storable index b z q in
          as_left (world_of i v w s l) index b o.same (f ∙ ap (λ (a : List ℕ). own_put a index b) taken_image ∙ o.image)

      pub left_page : region_of index ≡ Page → {j : List ℕ} → j ≡ image_of (write_register (load_call i).state (index - 0xFF00) b)
          → left 0 0 j v w s l ≡ left_by (put (world_of i v w s l) index b)
      left_page q f = as_left (world_of i v w s l) index b (put_register (world_of i v w s l) index b q refl) f

  -- and the next write finds an image that is taken

  pub taken_left : (u : World) → Stays (world_of i v w s l) u → Typed u.state → {j v' w' s' l' : List ℕ} → left 0 0 j v' w' s' l' ≡ left_by u
      → Taken j v' w' s' l' × (world_of j v' w' s' l' ≡ u)
  taken_left u y k e =
      let r = state_back u.state k (stays_storable (world_of i v w s l) t.used u y) in
      let n : (load_call (image_of u.state)).state ≡ u.state = ap (λ (d : Loaded). d.state) r.1.1 in
      subst (λ (a : Left). Taken a.image a.vram a.wram a.save a.log × (world_of a.image a.vram a.wram a.save a.log ≡ u)) (sym e) (
        record {
          bytes = r.1.0;
          number = ap (λ (d : Loaded). d.number) r.1.1;
          holds = subst (λ (m : Memory). Holds (world m u.vram u.wram u.save u.log)) (sym n) y.holds;
          used = ap (λ (m : Memory). use_in_range m.core.used (length u.log)) n ∙ y.used t.used;
        },
        ap (λ (m : Memory). world m u.vram u.wram u.save u.log) n,
      )

  pub taken_put : (index b : ℕ) → b < 256 → {j v' w' s' l' : List ℕ}
      → left 0 0 j v' w' s' l' ≡ left_by (put (world_of i v w s l) index b)
      → Taken j v' w' s' l' × (world_of j v' w' s' l' ≡ put (world_of i v w s l) index b)
  taken_put index b z =
      taken_left (put (world_of i v w s l) index b) (put_stays (world_of i v w s l) t.holds index b)
      (put_typed (world_of i v w s l) taken_typed (storable_state _ taken_storable) index b z)

  pub taken_whole : Below 256 v → Below 256 w → Below 256 s → Whole (world_of i v w s l)
  taken_whole a b c = record { state = typed_fine (load_call i).state taken_typed t.holds.state; vram = a; wram = b; save = c }
