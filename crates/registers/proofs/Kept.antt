-- A register write keeps the state in range, and leaves the machine's kind, the cartridge, its mapper and the log use. So do the calls on the state
-- alone and the end of a transfer. Leans on the laws of the ranges (crate memory) and of the groups' crates.
use mathlib.Core.Bool.{Bool, true, not, ◌||◌, or-true, false}
use mathlib.Core.List.{List}
use mathlib.Core.Path.{◌≡◌, refl, ◌∙◌}
use Prim.Native.Nat.{ℕ, ◌+◌, ◌%◌, ◌≤◌}
use native.Mathlib.Nat.{mod-lt}
use native.Mathlib.Omega.{arith}
use lib.Dec.{eqb}
use lib.ListN.{set}
use borrow.Author.Tests.{eqb-false}
use Rattle.hdma.specs.Hdma.{source_high, source_low, destination_high, destination_low, risen, stepped, fallen, still_on, block_ended, general_ended}
use Rattle.hdma.specs.declared.Hdma.{Hdma}
use Rattle.hdma.specs.declared.Start.{Start}
use Rattle.hdma.proofs.Laws.{risen_address, by_start}
use Rattle.interrupt.specs.Flags.{requested, removed}
use Rattle.interrupt.specs.declared.Interrupt.{Interrupt}
use Rattle.joypad.specs.declared.Controller.{Controller}
use Rattle.lcd.specs.Lcd.{scanline_written, lyc_written, control_written, status_written}
use Rattle.lcd.specs.declared.Lcd.{Lcd}
use Rattle.lcd.specs.declared.Screen.{Screen}
use Rattle.memory.specs.Ranges.{state_in_range, banks_in_range}
use Rattle.memory.specs.World.{with_oam, with_banks, with_hdma}
use Rattle.memory.specs.declared.Banks.{Banks}
use Rattle.memory.specs.declared.Memory.{Memory}
use Rattle.memory.proofs.Laws.{
  colour_banks,
  banks_colour,
  HdmaParts,
  hdma_parts,
  parts_hdma,
  range_banks,
  range_hdma,
  range_clock,
  range_background,
  range_sprites,
  plain,
  plain_range,
  banks_range,
  transfer_range,
  clock_range,
  background_range,
  sprites_range,
}
use Rattle.palette.specs.Palette.{colors_in_range, moved, with_data, write_index, write_data}
use Rattle.palette.specs.PanDocs.{address_of, moves}
use Rattle.palette.specs.declared.Palette.{Palette}
use Rattle.palette.proofs.Laws.{put_range}
use Rattle.rules.proofs.Tests.{cond_both, by_cond}
use Rattle.timer.specs.PanDocs.{counting}
use Rattle.timer.specs.Timer.{divided, counted, updated}
use Rattle.timer.specs.declared.Timer.{Timer}
use Rattle.timer.proofs.Laws.{period_bounds}
use Rattle.registers.specs.PanDocs.{speed_of, vram_bank_of, wram_bank_of}
use Rattle.registers.specs.State.{loaded, stored, screen_of, with_screen, on_screen, hosted, timer_of, with_timer, requested_in, removed_in, with_controller, polled_in}
use Rattle.registers.specs.Colour.{
  in_colour,
  speed_put,
  vram_bank_put,
  wram_bank_put,
  background_of,
  with_background_palette,
  sprites_of,
  with_sprite_palette,
  background_index_put,
  background_data_put,
  sprite_index_put,
  sprite_data_put,
}
use Rattle.registers.specs.Transfers.{source_high_put, source_low_put, destination_high_put, destination_low_put, started_by, started, start_put, with_ended, finished}
use Rattle.registers.specs.Page.{write_in, write_register}
use Rattle.registers.specs.Register.{register_of, byte_as}
use Rattle.registers.specs.declared.register.Register.{Register}
use Rattle.registers.specs.declared.register.Register.TheVariants as is
use Rattle.copies.specs.declared.Finish.{Finish}
use Rattle.registers.specs.declared.transfers.Started.{Started}
use Rattle.copies.specs.declared.Finish.TheVariants.{Nothing, Block, General}

pub record Kept (m n : Memory) : Type 0 where
  pub range : state_in_range m ≡ true → state_in_range n ≡ true
  pub colour : n.core.banks.colour ≡ m.core.banks.colour
  pub cartridge : n.core.cartridge ≡ m.core.cartridge
  pub mapper : n.core.mapper ≡ m.core.mapper
  pub used : n.core.used ≡ m.core.used

pub kept_refl : (m : Memory) → Kept m m
kept_refl m = record { range = λ h. h; colour = refl; cartridge = refl; mapper = refl; used = refl }

pub kept_trans : {l m n : Memory} → Kept l m → Kept m n → Kept l n
kept_trans a b =
    record {
      range = λ h. b.range (a.range h);
      colour = b.colour ∙ a.colour;
      cartridge = b.cartridge ∙ a.cartridge;
      mapper = b.mapper ∙ a.mapper;
      used = b.used ∙ a.used;
    }

-- Changes that no range reads

pub plain_kept : (m : Memory) (o p : List ℕ) (l : Lcd) (j : Controller) → Kept m (plain m o p l j m.core.used)
plain_kept m o p l j =
    record { range = λ h. plain_range m o p l j m.core.used ∙ h; colour = refl; cartridge = refl; mapper = refl; used = refl }

pub oam_kept : (m : Memory) (o : List ℕ) → Kept m (with_oam m o)
oam_kept m o = plain_kept m o m.page m.core.lcd m.core.joypad

pub stored_kept : (m : Memory) (at v : ℕ) → Kept m (stored m at v)
stored_kept m at v = plain_kept m m.oam (set m.page at v) m.core.lcd m.core.joypad

pub screen_kept : (f : Screen → Screen) (m : Memory) → Kept m (on_screen f m)
unfolding on_screen
screen_kept f m = plain_kept m m.oam (with_screen m (f (screen_of m))).page (f (screen_of m)).lcd m.core.joypad

pub hosted_kept : (m : Memory) (l : Lcd) → Kept m (hosted m l)
hosted_kept m l = plain_kept m m.oam m.page l m.core.joypad

pub requested_kept : (m : Memory) (i : Interrupt) → Kept m (requested_in m i)
requested_kept m i = stored_kept m 0x0F (requested (loaded m 0x0F) i)

pub removed_kept : (m : Memory) (i : Interrupt) → Kept m (removed_in m i)
removed_kept m i = stored_kept m 0x0F (removed (loaded m 0x0F) i)

pub controller_kept : (m : Memory) (c : Controller) → Kept m (with_controller m c)
controller_kept m c = plain_kept m m.oam m.page m.core.lcd c

pub polled_kept : (m : Memory) → Kept m (polled_in m)
polled_kept m = plain_kept m m.oam (polled_in m).page m.core.lcd (polled_in m).core.joypad

-- The timer

count_range : (t : Timer) (c : ℕ) → t.tima_cycles ≤ 1023 → (counted t c).tima_cycles ≤ 1023
unfolding counted
count_range t c h =
    let p = period_bounds t.tac in
    let l = mod-lt (t.tima_cycles + c) p.0 in
    cond_both (λ (u : Timer). u.tima_cycles ≤ 1023) (counting t.tac) (omega arith) h

update_range : (t : Timer) (c : ℕ) → t.tima_cycles ≤ 1023 → (updated t c).tima_cycles ≤ 1023
unfolding divided
update_range t c h = count_range (divided t c) c h

pub timer_kept : (m : Memory) (c : ℕ) → Kept m (with_timer m (updated (timer_of m) c))
timer_kept m c =
    record {
      range = λ h. clock_range m h _ _ (update_range (timer_of m) c (range_clock m h));
      colour = refl;
      cartridge = refl;
      mapper = refl;
      used = refl;
    }

-- Registers that only a colour machine has

in_colour_kept : (m : Memory) (at v : ℕ) (n : Memory) → (m.core.banks.colour ≡ true → Kept m n) → Kept m (in_colour m at v n)
in_colour_kept m at v n k = by_cond (Kept m) m.core.banks.colour n (stored m at v) k (λ e. stored_kept m at v)

speed_kept : (m : Memory) (v : ℕ) → Kept m (speed_put m v)
unfolding speed_put
speed_kept m v =
    let n = stored m 0x4D (speed_of (loaded m 0x4D) v) in
    in_colour_kept m 0x4D v n (λ e. stored_kept m 0x4D (speed_of (loaded m 0x4D) v))

banks_kept : (m : Memory) (b : Banks) (p : List ℕ) → b.colour ≡ m.core.banks.colour → (banks_in_range m.core.banks ≡ true → banks_in_range b ≡ true)
    → Kept m (with_banks m b p)
banks_kept m b p e k =
    record { range = λ h. banks_range m h b p e (k (range_banks m h)); colour = e; cartridge = refl; mapper = refl; used = refl }

vram_bank_kept : (m : Memory) (v : ℕ) → Kept m (vram_bank_put m v)
unfolding vram_bank_put
vram_bank_kept m v =
    let b : Banks = record { colour = m.core.banks.colour; vram = vram_bank_of v; wram = m.core.banks.wram } in
    in_colour_kept m 0x4F v (with_banks m b (set m.page 0x4F (vram_bank_of v)))
    (λ e.
    banks_kept m b (set m.page 0x4F (vram_bank_of v)) refl
    (λ h.
    let f = colour_banks m.core.banks e h in
    banks_colour b e (record { vram = omega arith; least = f.least; most = f.most })))

wram_bank_range : (v : ℕ) → (1 ≤ wram_bank_of v) × (wram_bank_of v ≤ 7)
unfolding wram_bank_of
wram_bank_range v =
    by_cond (λ (b : ℕ). (1 ≤ b) × (b ≤ 7)) (eqb (v % 8) 0) 1 (v % 8) (λ e. (omega arith, omega arith))
    (λ e. let z = eqb-false (v % 8) 0 e in (omega arith, omega arith))

wram_bank_kept : (m : Memory) (v : ℕ) → Kept m (wram_bank_put m v)
unfolding wram_bank_put
wram_bank_kept m v =
    let b : Banks = record { colour = m.core.banks.colour; vram = m.core.banks.vram; wram = wram_bank_of v } in
    in_colour_kept m 0x70 v (with_banks m b (set m.page 0x70 (v % 8)))
    (λ e.
    banks_kept m b (set m.page 0x70 (v % 8)) refl
    (λ h.
    banks_colour b e
    (record { vram = (colour_banks m.core.banks e h).vram; least = (wram_bank_range v).0; most = (wram_bank_range v).1 })))

-- Palettes

moved_colors : (p : Palette) → colors_in_range p.colors ≡ true → colors_in_range (moved p).colors ≡ true
unfolding moved
moved_colors p h = by_cond (λ (q : Palette). colors_in_range q.colors ≡ true) (moves p.index) _ p (λ e. h) (λ e. h)

data_colors : (p : Palette) (v : ℕ) → colors_in_range p.colors ≡ true → colors_in_range (write_data p v).colors ≡ true
data_colors p v h = put_range (moved (with_data p v)).colors (address_of p.index) v (moved_colors (with_data p v) h)

background_kept : (m : Memory) (p : Palette) → (colors_in_range m.background ≡ true → colors_in_range p.colors ≡ true)
    → Kept m (with_background_palette m p)
background_kept m p k =
    record {
      range = λ h. background_range m h p.colors _ (k (range_background m h));
      colour = refl;
      cartridge = refl;
      mapper = refl;
      used = refl;
    }

sprites_kept : (m : Memory) (p : Palette) → (colors_in_range m.sprites ≡ true → colors_in_range p.colors ≡ true)
    → Kept m (with_sprite_palette m p)
sprites_kept m p k =
    record {
      range = λ h. sprites_range m h p.colors _ (k (range_sprites m h));
      colour = refl;
      cartridge = refl;
      mapper = refl;
      used = refl;
    }

background_index_kept : (m : Memory) (v : ℕ) → Kept m (background_index_put m v)
unfolding background_index_put
background_index_kept m v =
    let p = write_index (background_of m) v in
    in_colour_kept m 0x68 v (with_background_palette m p) (λ e. background_kept m p (λ h. h))

background_data_kept : (m : Memory) (v : ℕ) → Kept m (background_data_put m v)
unfolding background_data_put
background_data_kept m v =
    let p = write_data (background_of m) v in
    in_colour_kept m 0x69 v (with_background_palette m p) (λ e. background_kept m p (data_colors (background_of m) v))

sprite_index_kept : (m : Memory) (v : ℕ) → Kept m (sprite_index_put m v)
unfolding sprite_index_put
sprite_index_kept m v =
    let p = write_index (sprites_of m) v in
    in_colour_kept m 0x6A v (with_sprite_palette m p) (λ e. sprites_kept m p (λ h. h))

sprite_data_kept : (m : Memory) (v : ℕ) → Kept m (sprite_data_put m v)
unfolding sprite_data_put
sprite_data_kept m v =
    let p = write_data (sprites_of m) v in
    in_colour_kept m 0x6B v (with_sprite_palette m p) (λ e. sprites_kept m p (data_colors (sprites_of m) v))

-- Transfers

hdma_kept : (m : Memory) (x : Hdma) (p : List ℕ) → (HdmaParts m.core.hdma m.core.banks.colour → HdmaParts x m.core.banks.colour)
    → Kept m (with_hdma m x p)
hdma_kept m x p k =
    record {
      range = λ h. transfer_range m h x p (parts_hdma x m.core.banks.colour (k (hdma_parts m.core.hdma m.core.banks.colour (range_hdma m h))));
      colour = refl;
      cartridge = refl;
      mapper = refl;
      used = refl;
    }

source_high_kept : (m : Memory) (v : ℕ) → Kept m (source_high_put m v)
unfolding source_high_put source_high
source_high_kept m v =
    in_colour_kept m 0x51 v _
    (λ e. hdma_kept m _ _ (λ f. record { source = omega arith; destination = f.destination; allowed = f.allowed }))

source_low_kept : (m : Memory) (v : ℕ) → Kept m (source_low_put m v)
unfolding source_low_put source_low
source_low_kept m v =
    in_colour_kept m 0x52 v _
    (λ e. hdma_kept m _ _ (λ f. record { source = omega arith; destination = f.destination; allowed = f.allowed }))

destination_high_kept : (m : Memory) (v : ℕ) → Kept m (destination_high_put m v)
unfolding destination_high_put destination_high
destination_high_kept m v =
    in_colour_kept m 0x53 v _
    (λ e. hdma_kept m _ _ (λ f. record { source = f.source; destination = omega arith; allowed = f.allowed }))

destination_low_kept : (m : Memory) (v : ℕ) → Kept m (destination_low_put m v)
unfolding destination_low_put destination_low
destination_low_kept m v =
    in_colour_kept m 0x54 v _
    (λ e. hdma_kept m _ _ (λ f. record { source = f.source; destination = omega arith; allowed = f.allowed }))

-- HDMA may be switched on, in colour
switched_kept : (m : Memory) (on : Bool) (p : List ℕ) → m.core.banks.colour ≡ true
    → Kept m (with_hdma m (record { on = on; source = m.core.hdma.source; destination = m.core.hdma.destination }) p)
switched_kept m on p e = hdma_kept m _ p (λ f. record { source = f.source; destination = f.destination; allowed = rw e })

start_kept : (m : Memory) (v : ℕ) → Kept m (start_put m v)
unfolding started
start_kept m v =
    by_cond (λ (s : Started). Kept m s.memory) m.core.banks.colour _ _
    (λ e.
    by_start (λ (s : Start). Kept m (started_by m v s).memory) m.core.hdma m.core.lcd.mode v (switched_kept m true _ e)
    (switched_kept m true _ e) (switched_kept m false _ e) (kept_refl m))
    (λ e. stored_kept m 0x55 v)

stepped_range : (edge past a : ℕ) → past % 16 ≡ 0 → a % 16 ≡ 0 → stepped edge past a % 16 ≡ 0
unfolding stepped
stepped_range edge past a p h = cond_both (λ (x : ℕ). x % 16 ≡ 0) (eqb (risen a 16) edge) p (risen_address a 16 h refl).0

still_allowed : (colour on : Bool) (left : ℕ) → (colour || not on) ≡ true → (colour || not (still_on on left)) ≡ true
unfolding still_on
still_allowed colour on left h = cond_both (λ (o : Bool). (colour || not o) ≡ true) (eqb left 255) (or-true colour) h

block_kept : (m : Memory) → Kept m (with_ended m (block_ended m.core.hdma (loaded m 0x55)))
unfolding block_ended
block_kept m =
    hdma_kept m _ _
    (λ f.
    record {
      source = stepped_range 0x8000 0xA000 m.core.hdma.source refl f.source;
      destination = stepped_range 0xA000 0x8000 m.core.hdma.destination refl f.destination;
      allowed = still_allowed m.core.banks.colour m.core.hdma.on (fallen (loaded m 0x55)) f.allowed;
    })

general_kept : (m : Memory) (v : ℕ) → Kept m (with_ended m (general_ended m.core.hdma v))
unfolding general_ended
general_kept m v =
    hdma_kept m _ _
    (λ f.
    record {
      source = (risen_address m.core.hdma.source _ f.source (omega arith)).0;
      destination = (risen_address m.core.hdma.destination _ f.destination (omega arith)).0;
      allowed = f.allowed;
    })

pub finished_kept : (m : Memory) (k : Finish) (v : ℕ) → Kept m (finished m k v)
unfolding finished
finished_kept m Nothing v = kept_refl m
finished_kept m Block v = block_kept m
finished_kept m General v = general_kept m v

-- The page

pub in_kept : (r : Register) (m : Memory) (at v : ℕ) → Kept m (write_in r m at v)
in_kept is.Sound m at v = kept_refl m
in_kept is.Control m at v = screen_kept (λ s. control_written s v) m
in_kept is.Status m at v = screen_kept (λ s. status_written s v) m
in_kept is.Line m at v = screen_kept (λ s. scanline_written s v) m
in_kept is.Compare m at v = screen_kept (λ s. lyc_written s v) m
in_kept is.Speed m at v = speed_kept m v
in_kept is.VramBank m at v = vram_bank_kept m v
in_kept is.SourceHigh m at v = source_high_kept m v
in_kept is.SourceLow m at v = source_low_kept m v
in_kept is.DestinationHigh m at v = destination_high_kept m v
in_kept is.DestinationLow m at v = destination_low_kept m v
in_kept is.Start m at v = start_kept m v
in_kept is.BackgroundIndex m at v = background_index_kept m v
in_kept is.BackgroundData m at v = background_data_kept m v
in_kept is.SpriteIndex m at v = sprite_index_kept m v
in_kept is.SpriteData m at v = sprite_data_kept m v
in_kept is.WramBank m at v = wram_bank_kept m v
in_kept is.Byte m at v = stored_kept m at (byte_as at v)

pub write_kept : (m : Memory) (at v : ℕ) → Kept m (write_register m at v)
write_kept m at v = in_kept (register_of at) m at v
