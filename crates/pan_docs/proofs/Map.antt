-- The memory map: each row by the region's bounds and the places in it; then all of them (proofs/Rows.antt).
use mathlib.Core.Path.{◌≡◌, refl, sym, ap, ◌∙◌}
use Prim.Native.Nat.{ℕ, ◌+◌, ◌-◌, ◌*◌, ◌%◌, ◌^◌, ◌<◌, ◌≤◌}
use native.Mathlib.Omega.{arith}
use lib.ListN.{get_or, set}
use borrow.Author.Tests.{lt-ltb, le-ltb}
use Rattle.mbc.specs.Mbc.{source, rom_bank}
use Rattle.mbc.specs.PanDocs.{rom_place}
use Rattle.memory.proofs.Regions.{region_at}
use Rattle.memory.specs.Region.{region_of}
use Rattle.memory.specs.World.{World, Fixed, with_oam}
use Rattle.memory.specs.declared.region.Region.{Region}
use Rattle.memory.specs.declared.region.Region.TheVariants as region
use Rattle.mmu.specs.Access.{byte_in as byteInRegion, put_in as putInRegion, read_in, put, in_state, in_vram, in_wram}
use Rattle.mmu.specs.PanDocs.{echo, vram_at, wram_at}
use Rattle.registers.proofs.Rest.{colour_shown}
use Rattle.registers.specs.Page.{read_register, write_register}
use Rattle.pan_docs.specs.Bits.{low}
use Rattle.pan_docs.specs.Map.{FirstBank, SwitchableBank, Video, CartridgeRam, WorkZero, WorkSwitchable, Echo}
use Rattle.pan_docs.specs.Map.{Objects, NotUsable, Io, High, InterruptEnable, map, Mapped, MemoryMap}
use Rattle.pan_docs.proofs.Bits.{low_mod}
use Rattle.pan_docs.proofs.Rows.{only}

-- by the region

module _ (i : ℕ) {r : Region} (e : region_of i ≡ r) where
  reads : (x : Fixed) (w : World) → read_in x w i ≡ byteInRegion r x w.state w.vram w.wram w.save i
  reads x w = ap (λ (r : Region). byteInRegion r x w.state w.vram w.wram w.save i) e

  puts : (w : World) (v : ℕ) → put w i v ≡ putInRegion r w i v
  puts w v = ap (λ (r : Region). putInRegion r w i v) e

-- the places

module _ (bank i : ℕ) where
  rom_first : i < 0x4000 → rom_place bank i ≡ low 14 i
  unfolding rom_place
  rom_first h = rw (lt-ltb i 0x4000 h) (omega (arith, low_mod 14 i))

  rom_switched : 0x4000 ≤ i → i < 0x8000 → rom_place bank i ≡ bank * 2 ^ 14 + low 14 i
  unfolding rom_place
  rom_switched h l = rw (le-ltb i 0x4000 h) (omega (arith, low_mod 14 i))

  video_place : 0x8000 ≤ i → i < 0xA000 → vram_at bank i ≡ bank * 2 ^ 13 + low 13 i
  video_place h l = omega (arith, low_mod 13 i)

  work_zero : 0xC000 ≤ i → i < 0xD000 → wram_at bank i ≡ low 12 i
  unfolding wram_at echo
  work_zero h l = rw (lt-ltb i 0xE000 (omega arith), lt-ltb i 0xD000 l) (omega (arith, low_mod 12 i))

  work_switched : 0xD000 ≤ i → i < 0xE000 → wram_at bank i ≡ bank * 2 ^ 12 + low 12 i
  unfolding wram_at echo
  work_switched h l = rw (lt-ltb i 0xE000 l, le-ltb i 0xD000 h) (omega (arith, low_mod 12 i))

  work_echo : 0xE000 ≤ i → i < 0xFE00 → wram_at bank i ≡ wram_at bank (i - 0x2000)
  unfolding wram_at echo
  work_echo h l = rw (le-ltb i 0xE000 h, lt-ltb (i - 0x2000) 0xE000 (omega arith))

-- the last eight bits

low_eight : (i a : ℕ) → a % 256 ≡ 0 → a ≤ i → i < a + 256 → i - a ≡ low 8 i
low_eight i a e h l = omega (arith, low_mod 8 i)

-- the rows

module _ (i : ℕ) where
  rom_read : (x : Fixed) (w : World) (at : ℕ) → region_of i ≡ region.Rom → i < 0x8000 → rom_place (rom_bank w.state.core.mapper) i ≡ at
      → read_in x w i ≡ get_or x.rom at 0
  unfolding source
  rom_read x w at e h p = reads i e x w ∙ rw (lt-ltb i 0x8000 h, p)

  first_bank : 0x0000 ≤ i → i ≤ 0x3FFF → Mapped i FirstBank
  first_bank h l =
      let e = region_at region.Rom i (omega arith) in
      record {
        region = e;
        read = λ x w. rom_read x w _ e (omega arith) (rom_first _ i (omega arith));
        write = puts i e;
      }

  switchable_bank : 0x4000 ≤ i → i ≤ 0x7FFF → Mapped i SwitchableBank
  switchable_bank h l =
      let e = region_at region.Rom i (omega arith) in
      record {
        region = e;
        read = λ x w. rom_read x w _ e (omega arith) (rom_switched _ i h (omega arith));
        write = puts i e;
      }

  video : 0x8000 ≤ i → i ≤ 0x9FFF → Mapped i Video
  video h l =
      let e = region_at region.Vram i (h, omega arith) in
      record {
        region = e;
        read = λ x w. reads i e x w ∙ ap (λ (k : ℕ). get_or w.vram k 0) (video_place _ i h (omega arith));
        write = λ w v. puts i e w v ∙ ap (λ (k : ℕ). in_vram w (set w.vram k v)) (video_place _ i h (omega arith));
      }

  cartridge_ram : 0xA000 ≤ i → i ≤ 0xBFFF → Mapped i CartridgeRam
  unfolding source
  cartridge_ram h l =
      let e = region_at region.Save i (h, omega arith) in
      record {
        region = e;
        read = λ x w. reads i e x w ∙ rw (le-ltb i 0x8000 (omega arith));
        write = puts i e;
      }

  module _ (h : 0xC000 ≤ i) (l : i ≤ 0xFDFF) where
    in_work : region_of i ≡ region.Wram
    in_work = region_at region.Wram i (h, omega arith)

    work_read : (x : Fixed) (w : World) (k : ℕ) → wram_at w.state.core.banks.wram i ≡ k → read_in x w i ≡ get_or w.wram k 0
    work_read x w k p = reads i in_work x w ∙ ap (λ (k : ℕ). get_or w.wram k 0) p

    work_put : (w : World) (v k : ℕ) → wram_at w.state.core.banks.wram i ≡ k → put w i v ≡ in_wram w (set w.wram k v)
    work_put w v k p = puts i in_work w v ∙ ap (λ (k : ℕ). in_wram w (set w.wram k v)) p

  first_work : 0xC000 ≤ i → i ≤ 0xCFFF → Mapped i WorkZero
  first_work h l =
      let k : i ≤ 0xFDFF = omega arith in
      record {
        region = in_work h k;
        read = λ x w. work_read h k x w _ (work_zero _ i h (omega arith));
        write = λ w v. work_put h k w v _ (work_zero _ i h (omega arith));
      }

  switched_work : 0xD000 ≤ i → i ≤ 0xDFFF → Mapped i WorkSwitchable
  switched_work h l =
      let c : 0xC000 ≤ i = omega arith in
      let k : i ≤ 0xFDFF = omega arith in
      record {
        region = in_work c k;
        read = λ x w. work_read c k x w _ (work_switched _ i h (omega arith));
        write = λ w v. work_put c k w v _ (work_switched _ i h (omega arith));
      }

  objects_read : region_of i ≡ region.Oam → 0xFE00 ≤ i → i < 0xFF00 → (x : Fixed) (w : World) → read_in x w i ≡ get_or w.state.oam (low 8 i) 0
  objects_read e h l x w = reads i e x w ∙ ap (λ (k : ℕ). get_or w.state.oam k 0) (low_eight i 0xFE00 refl h l)

  objects_put : region_of i ≡ region.Oam → 0xFE00 ≤ i → i < 0xFF00 → (w : World) (v : ℕ)
      → put w i v ≡ in_state w (with_oam w.state (set w.state.oam (low 8 i) v))
  objects_put e h l w v = puts i e w v ∙ ap (λ (k : ℕ). in_state w (with_oam w.state (set w.state.oam k v))) (low_eight i 0xFE00 refl h l)

  objects : 0xFE00 ≤ i → i ≤ 0xFE9F → Mapped i Objects
  objects h l =
      let e = region_at region.Oam i (h, omega arith) in
      record { region = e; read = objects_read e h (omega arith); write = objects_put e h (omega arith) }

  not_usable : 0xFEA0 ≤ i → i ≤ 0xFEFF → Mapped i NotUsable
  not_usable h l =
      let e = region_at region.Oam i (omega arith, omega arith) in
      record { region = e; read = objects_read e (omega arith) (omega arith); write = objects_put e (omega arith) (omega arith) }

  module _ (h : 0xFF00 ≤ i) (l : i ≤ 0xFFFF) where
    in_page : region_of i ≡ region.Page
    in_page = region_at region.Page i h

    page_read : (x : Fixed) (w : World) → read_in x w i ≡ read_register w.state x.sound (low 8 i)
    page_read x w = reads i in_page x w ∙ ap (λ (k : ℕ). read_register w.state x.sound k) (low_eight i 0xFF00 refl h (omega arith))

    page_put : (w : World) (v : ℕ) → put w i v ≡ in_state w (write_register w.state (low 8 i) v)
    page_put w v = puts i in_page w v ∙ ap (λ (k : ℕ). in_state w (write_register w.state k v)) (low_eight i 0xFF00 refl h (omega arith))

    -- from FF80 on no register has a rule of its own for reads
    high_read : 0xFF80 ≤ i → (x : Fixed) (w : World) → read_in x w i ≡ get_or w.state.page (low 8 i) 0
    unfolding read_register
    high_read k x w =
        let a : 0x80 ≤ low 8 i = omega (arith, low_eight i 0xFF00 refl h (omega arith)) in
        page_read x w
        ∙ colour_shown _ _ _ _ _ (low 8 i) (omega arith) (λ z. omega arith) (λ z. omega arith) (λ z. omega arith) (λ z. omega arith)
        (λ z. omega arith) (λ z. omega arith) (λ z. omega arith)

  io : 0xFF00 ≤ i → i ≤ 0xFF7F → Mapped i Io
  io h l = let k : i ≤ 0xFFFF = omega arith in record { region = in_page h k; read = page_read h k; write = page_put h k }

  high : 0xFF80 ≤ i → i ≤ 0xFFFE → Mapped i High
  high h l =
      let a : 0xFF00 ≤ i = omega arith in
      let k : i ≤ 0xFFFF = omega arith in
      record { region = in_page a k; read = high_read a k h; write = page_put a k }

  interrupt_enable : 0xFFFF ≤ i → i ≤ 0xFFFF → Mapped i InterruptEnable
  interrupt_enable h k =
      let a : 0xFF00 ≤ i = omega arith in
      record { region = in_page a k; read = high_read a k (omega arith); write = page_put a k }

-- the same byte as 2000 hex lower: both lie in work memory
echoed : (i : ℕ) → 0xE000 ≤ i → i ≤ 0xFDFF → Mapped i Echo
echoed i h l =
    let c : 0xC000 ≤ i = omega arith in
    let d : 0xC000 ≤ i - 0x2000 = omega arith in
    let m : i - 0x2000 ≤ 0xFDFF = omega arith in
    record {
      region = in_work i c l;
      read = λ x w. work_read i c l x w _ (work_echo _ i h (omega arith)) ∙ sym (work_read (i - 0x2000) d m x w _ refl);
      write = λ w v. work_put i c l w v _ (work_echo _ i h (omega arith)) ∙ sym (work_put (i - 0x2000) d m w v _ refl);
    }

pub memory_map : MemoryMap
memory_map i h =
    only i (Mapped i) map 0x0000 65536 refl (omega arith) h (
      first_bank i,
      (
        switchable_bank i,
        (
          video i,
          (
            cartridge_ram i,
            (
              first_work i,
              (
                switched_work i,
                (
                  echoed i,
                  (objects i, (not_usable i, (io i, (high i, (interrupt_enable i, tt))))),
                ),
              ),
            ),
          ),
        ),
      ),
    )
