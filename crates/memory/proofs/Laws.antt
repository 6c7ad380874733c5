-- What a state in range gives and what leaves it in range, for the bus above; a fresh bus is in range, the all-zero state is not.
use mathlib.Core.Bool.{Bool, true, false, cond, not, ◌&&◌, ◌||◌, and-true}
use mathlib.Core.List.{List}
use mathlib.Core.Path.{◌≡◌, refl, ◌∙◌}
use Prim.Native.Nat.{ℕ, ◌+◌, ◌*◌, ◌%◌, ◌≤◌}
use native.Mathlib.Omega.{arith}
use lib.Dec.{eqb, leb}
use borrow.Author.Tests.{eqb-true, eq-eqb, leb-true, le-leb}
use Rattle.rules.proofs.Tests.{both_true}
use Rattle.hdma.specs.declared.Hdma.{Hdma}
use Rattle.hdma.specs.Hdma.{start_of}
use Rattle.joypad.specs.declared.Controller.{Controller}
use Rattle.lcd.specs.declared.Lcd.{Lcd}
use Rattle.mbc.specs.Mbc as mbc
use Rattle.mbc.proofs.Laws.{in_range_after}
use Rattle.mbc.proofs.Ranges.{start_in_range}
use Rattle.mbc.specs.declared.cartridge.Cartridge.{Cartridge}
use Rattle.palette.specs.Palette as palette
use Rattle.palette.specs.Palette.{colors_in_range}
use Rattle.palette.specs.declared.Color.{Color}
use Rattle.savelog.specs.Log.{use_in_range}
use Rattle.memory.specs.Ranges.{vram_len, wram_len, banks_in_range, hdma_in_range, groups_in_range, palettes_in_range, state_in_range, in_range, core_in_range}
use Rattle.memory.specs.Start.{start_page, start_hdma, zeroed, started}
use Rattle.memory.specs.World.{with_oam, with_both, lcd_in, joypad_in, used_in, with_background, with_sprites, with_banks, with_hdma, with_clock, with_mapper, with_used}
use Rattle.memory.specs.declared.Banks.{Banks}
use Rattle.memory.specs.declared.Clock.{Clock}
use Rattle.memory.specs.declared.Memory.{Memory}

-- The banks

-- in colour: video bank 0..1, work bank 1..7
pub record ColourBanks (b : Banks) : Type 0 where
  pub vram : b.vram ≤ 1
  pub least : 1 ≤ b.wram
  pub most : b.wram ≤ 7

in_colour_law : (vram wram : ℕ) → (leb vram 1 && (leb 1 wram && leb wram 7)) ≡ true → (vram ≤ 1) × ((1 ≤ wram) × (wram ≤ 7))
in_colour_law vram wram h =
    let s = both_true (leb vram 1) (leb 1 wram && leb wram 7) h in
    let t = both_true (leb 1 wram) (leb wram 7) s.1 in
    (leb-true vram 1 s.0, (leb-true 1 wram t.0, leb-true wram 7 t.1))

in_monochrome : (vram wram : ℕ) → (eqb vram 0 && eqb wram 1) ≡ true → (vram ≡ 0) × (wram ≡ 1)
in_monochrome vram wram h =
    let s = both_true (eqb vram 0) (eqb wram 1) h in
    (eqb-true vram 0 s.0, eqb-true wram 1 s.1)

pub colour_banks : (b : Banks) → b.colour ≡ true → banks_in_range b ≡ true → ColourBanks b
unfolding banks_in_range
colour_banks b e h =
    let s = in_colour_law b.vram b.wram (rw e at h) in
    record { vram = s.0; least = s.1.0; most = s.1.1 }

pub banks_colour : (b : Banks) → b.colour ≡ true → ColourBanks b → banks_in_range b ≡ true
unfolding banks_in_range
banks_colour b e f = rw (e, le-leb b.vram 1 f.vram, le-leb 1 b.wram f.least, le-leb b.wram 7 f.most)

-- a selected bank lies in what is lent
banks_fit : (colour : Bool) (vram wram : ℕ)
    → cond colour (leb vram 1 && (leb 1 wram && leb wram 7)) (eqb vram 0 && eqb wram 1) ≡ true
    → (vram * 0x2000 + 0x2000 ≤ vram_len colour) × (wram * 0x1000 + 0x1000 ≤ wram_len colour)
banks_fit true vram wram h = let s = in_colour_law vram wram h in (omega arith, omega arith)
banks_fit false vram wram h = let s = in_monochrome vram wram h in (omega arith, omega arith)

pub vram_fits : (b : Banks) → banks_in_range b ≡ true → b.vram * 0x2000 + 0x2000 ≤ vram_len b.colour
unfolding banks_in_range
vram_fits b h = (banks_fit b.colour b.vram b.wram h).0

pub wram_fits : (b : Banks) → banks_in_range b ≡ true → b.wram * 0x1000 + 0x1000 ≤ wram_len b.colour
unfolding banks_in_range
wram_fits b h = (banks_fit b.colour b.vram b.wram h).1

-- The transfers' addresses

pub record HdmaParts (h : Hdma) (colour : Bool) : Type 0 where
  pub source : h.source % 16 ≡ 0
  pub destination : h.destination % 16 ≡ 0
  pub allowed : (colour || not h.on) ≡ true

pub hdma_parts : (h : Hdma) (colour : Bool) → hdma_in_range h colour ≡ true → HdmaParts h colour
unfolding hdma_in_range
hdma_parts h colour e =
    let s = both_true (eqb (h.source % 16) 0) (eqb (h.destination % 16) 0 && (colour || not h.on)) e in
    let t = both_true (eqb (h.destination % 16) 0) (colour || not h.on) s.1 in
    record { source = eqb-true (h.source % 16) 0 s.0; destination = eqb-true (h.destination % 16) 0 t.0; allowed = t.1 }

pub parts_hdma : (h : Hdma) (colour : Bool) → HdmaParts h colour → hdma_in_range h colour ≡ true
unfolding hdma_in_range
parts_hdma h colour f = rw (eq-eqb (h.source % 16) 0 f.source, eq-eqb (h.destination % 16) 0 f.destination, f.allowed)

-- The whole state

pub record Parts (m : Memory) : Type 0 where
  pub banks : banks_in_range m.core.banks ≡ true
  pub hdma : hdma_in_range m.core.hdma m.core.banks.colour ≡ true
  pub clock : m.core.clock.tima ≤ 1023
  pub mapper : mbc.in_range m.core.cartridge m.core.mapper ≡ true
  pub background : colors_in_range m.background ≡ true
  pub sprites : colors_in_range m.sprites ≡ true

pub range_parts : (m : Memory) → state_in_range m ≡ true → Parts m
unfolding state_in_range groups_in_range palettes_in_range
range_parts m h =
    let d = mbc.in_range m.core.cartridge m.core.mapper in
    let c = leb m.core.clock.tima 1023 && d in
    let b = hdma_in_range m.core.hdma m.core.banks.colour && c in
    let r = both_true (groups_in_range m.core) (palettes_in_range m) h in
    let s = both_true (banks_in_range m.core.banks) b r.0 in
    let t = both_true (hdma_in_range m.core.hdma m.core.banks.colour) c s.1 in
    let u = both_true (leb m.core.clock.tima 1023) d t.1 in
    let w = both_true (colors_in_range m.background) (colors_in_range m.sprites) r.1 in
    record {
      banks = s.0;
      hdma = t.0;
      clock = leb-true m.core.clock.tima 1023 u.0;
      mapper = u.1;
      background = w.0;
      sprites = w.1;
    }

pub parts_range : (m : Memory) → Parts m → state_in_range m ≡ true
unfolding state_in_range groups_in_range palettes_in_range
parts_range m p =
    rw (p.banks, p.hdma, le-leb m.core.clock.tima 1023 p.clock, p.mapper, p.background, p.sprites)

-- A state is in range where it is so without its arrays and its colours are

apart : (a b c : Bool) → ((a && b) && c) ≡ ((a && c) && b)
apart true true true = refl
apart true true false = refl
apart true false true = refl
apart true false false = refl
apart false b c = refl

pub core_colors : (m : Memory) (limit : ℕ) → in_range m limit ≡ (core_in_range m.core limit && palettes_in_range m)
unfolding in_range state_in_range core_in_range
core_colors m limit = apart (groups_in_range m.core) (palettes_in_range m) (use_in_range m.core.used limit)

pub core_range : (m : Memory) (limit : ℕ) → colors_in_range m.background ≡ true → colors_in_range m.sprites ≡ true
    → in_range m limit ≡ core_in_range m.core limit
unfolding palettes_in_range
core_range m limit b s = core_colors m limit ∙ rw (b, s) (and-true (core_in_range m.core limit))

module _ (m : Memory) (h : state_in_range m ≡ true) where
  pub range_banks : banks_in_range m.core.banks ≡ true
  range_banks = (range_parts m h).banks

  pub range_hdma : hdma_in_range m.core.hdma m.core.banks.colour ≡ true
  range_hdma = (range_parts m h).hdma

  pub range_clock : m.core.clock.tima ≤ 1023
  range_clock = (range_parts m h).clock

  pub range_mapper : mbc.in_range m.core.cartridge m.core.mapper ≡ true
  range_mapper = (range_parts m h).mapper

  pub range_background : colors_in_range m.background ≡ true
  range_background = (range_parts m h).background

  pub range_sprites : colors_in_range m.sprites ≡ true
  range_sprites = (range_parts m h).sprites

-- What changes may do to it

-- no range reads OAM, the page, the screen, the joypad or the log use
abbrev pub plain : Memory → List ℕ → List ℕ → Lcd → Controller → ℕ → Memory
plain m o p l j u = with_oam (with_both m (used_in (joypad_in (lcd_in m.core l) j) u) p) o

pub plain_range : (m : Memory) (o p : List ℕ) (l : Lcd) (j : Controller) (u : ℕ) → state_in_range (plain m o p l j u) ≡ state_in_range m
unfolding state_in_range groups_in_range palettes_in_range
plain_range m o p l j u = refl

pub oam_range : (m : Memory) (o : List ℕ) → state_in_range (with_oam m o) ≡ state_in_range m
oam_range m o = plain_range m o m.page m.core.lcd m.core.joypad m.core.used

pub used_range : (m : Memory) (u : ℕ) → state_in_range (with_used m u) ≡ state_in_range m
used_range m u = plain_range m m.oam m.page m.core.lcd m.core.joypad u

module _ (m : Memory) (h : state_in_range m ≡ true) where
  pub banks_range : (b : Banks) (p : List ℕ) → b.colour ≡ m.core.banks.colour → banks_in_range b ≡ true
      → state_in_range (with_banks m b p) ≡ true
  banks_range b p e k =
      let s = range_parts m h in
      parts_range (with_banks m b p)
      (record { banks = k; hdma = rw e s.hdma; clock = s.clock; mapper = s.mapper; background = s.background; sprites = s.sprites })

  pub transfer_range : (x : Hdma) (p : List ℕ) → hdma_in_range x m.core.banks.colour ≡ true → state_in_range (with_hdma m x p) ≡ true
  transfer_range x p k =
      let s = range_parts m h in
      parts_range (with_hdma m x p)
      (record { banks = s.banks; hdma = k; clock = s.clock; mapper = s.mapper; background = s.background; sprites = s.sprites })

  pub clock_range : (x : Clock) (p : List ℕ) → x.tima ≤ 1023 → state_in_range (with_clock m x p) ≡ true
  clock_range x p k =
      let s = range_parts m h in
      parts_range (with_clock m x p)
      (record { banks = s.banks; hdma = s.hdma; clock = k; mapper = s.mapper; background = s.background; sprites = s.sprites })

  pub background_range : (x : List Color) (p : List ℕ) → colors_in_range x ≡ true → state_in_range (with_background m x p) ≡ true
  background_range x p k =
      let s = range_parts m h in
      parts_range (with_background m x p)
      (record { banks = s.banks; hdma = s.hdma; clock = s.clock; mapper = s.mapper; background = k; sprites = s.sprites })

  pub sprites_range : (x : List Color) (p : List ℕ) → colors_in_range x ≡ true → state_in_range (with_sprites m x p) ≡ true
  sprites_range x p k =
      let s = range_parts m h in
      parts_range (with_sprites m x p)
      (record { banks = s.banks; hdma = s.hdma; clock = s.clock; mapper = s.mapper; background = s.background; sprites = k })

  -- a write to the mapper, wherever it goes
  pub mapper_kept : (index value : ℕ) → state_in_range (with_mapper m (mbc.after m.core.cartridge m.core.mapper index value)) ≡ true
  mapper_kept index value =
      let s = range_parts m h in
      parts_range (with_mapper m (mbc.after m.core.cartridge m.core.mapper index value))
      (record {
        banks = s.banks;
        hdma = s.hdma;
        clock = s.clock;
        mapper = in_range_after m.core.cartridge m.core.mapper index value s.mapper;
        background = s.background;
        sprites = s.sprites;
      })

-- The start

start_banks : (colour : Bool) → banks_in_range (record { colour = colour; vram = 0; wram = 1 }) ≡ true
unfolding banks_in_range
start_banks true = refl
start_banks false = refl

start_parts : (colour : Bool) (page : List ℕ) → HdmaParts (start_hdma colour page) colour
unfolding start_hdma start_of
start_parts true page = record { source = omega arith; destination = omega arith; allowed = refl }
start_parts false page = record { source = refl; destination = refl; allowed = refl }

start_colors : colors_in_range (started (mbc.cartridge_of 0 0) (mbc.start 0) false).background ≡ true
unfolding started colors_in_range palette.in_range
start_colors = refl

-- a description in range starts a bus in range
pub fresh_range : (c : Cartridge) (kind : ℕ) (colour : Bool) → mbc.described c (mbc.start kind) ≡ true
    → state_in_range (started c (mbc.start kind) colour) ≡ true
unfolding started
fresh_range c kind colour h =
    parts_range (started c (mbc.start kind) colour)
    (record {
      banks = start_banks colour;
      hdma = parts_hdma (start_hdma colour (start_page colour)) colour (start_parts colour (start_page colour));
      clock = omega arith;
      mapper = start_in_range c kind ∙ h;
      background = start_colors;
      sprites = start_colors;
    })

-- with any log, which is all free
pub fresh_in_range : (c : Cartridge) (kind : ℕ) (colour : Bool) (limit : ℕ) → mbc.described c (mbc.start kind) ≡ true
    → in_range (started c (mbc.start kind) colour) limit ≡ true
unfolding in_range use_in_range started
fresh_in_range c kind colour limit h = rw (fresh_range c kind colour h, le-leb 0 limit (omega arith))

pub zero_refused : (limit : ℕ) → in_range zeroed limit ≡ false
unfolding in_range state_in_range groups_in_range banks_in_range zeroed
zero_refused limit = refl
