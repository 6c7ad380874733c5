-- Every byte that is read is a byte, so every write leaves bytes: in the state by the laws of crate in_place, in the memories here.
use mathlib.Core.List.{List}
use mathlib.Core.Path.{◌≡◌, refl}
use Prim.Native.Nat.{ℕ, zero, suc, ◌+◌, ◌-◌, ◌*◌, ◌/◌, ◌%◌, ◌<◌}
use native.Mathlib.Omega.{arith}
use lib.Bits.{bit_or, or_lt}
use lib.Dec.{eqb, ltb, lit<}
use lib.ListN.{length}
use Rattle.image.proofs.PatchLaws.{below_set}
use Rattle.in_place.proofs.Fine.{Fine, page_set, oam_fine, mapper_fine, used_fine, loaded_byte, write_fine, finished_fine}
use Rattle.joypad.specs.Joypad.{pad_read, directions_answer}
use Rattle.mbc.proofs.Laws.{read_below, stored_within}
use Rattle.mbc.specs.Mbc.{read_at, answer}
use Rattle.mbc.specs.declared.cartridge.Cartridge.{Cartridge}
use Rattle.mbc.specs.declared.mbc.Stored.{Stored}
use Rattle.std.proofs.Common.{Option, Some, None}
use Rattle.mbc.specs.declared.mbc.Mapper.{Mapper}
use Rattle.memory.specs.Region.{region_of}
use Rattle.memory.specs.World.{World, Fixed}
use Rattle.memory.specs.declared.Memory.{Memory}
use Rattle.memory.specs.declared.region.Region.{Region}
use Rattle.memory.specs.declared.region.Region.TheVariants.{Rom, Vram, Save, Wram, Oam, Page}
use Rattle.mmu.specs.Access.{byte_in, read_in, mapper_put, saved, save_put, in_state, put_in, put}
use Rattle.mmu.specs.Write.{copy_by, transferred, write_at, word_at}
use Rattle.packing.specs.Packing.{Below}
use Rattle.registers.specs.Page.{by_kind, line_read, plain_read, shown_as, read_register}
use Rattle.registers.specs.State.{loaded}
use Rattle.registers.specs.Transfers.{copy_of}
use Rattle.copies.specs.declared.Copy.{Copy}
use Rattle.rules.proofs.Tests.{cond_both}
use Rattle.savelog.specs.Log.{width, full}

abbrev Byte : ℕ → Type 0
Byte n = n < 256

pub record Whole (w : World) : Type 0 where
  pub state : Fine w.state
  pub vram : Below 256 w.vram
  pub wram : Below 256 w.wram
  pub save : Below 256 w.save

-- What is read

module _ (rom save : List ℕ) (r : Below 256 rom) (s : Below 256 save) where
  mapped_byte : (c : Cartridge) (m : Mapper) (i : ℕ) → Byte (read_at c m rom save i)
  mapped_byte c m i = read_below c m rom save i r s

module _ {m : Memory} (f : Fine m) (sound : List ℕ) (b : Below 256 sound) where
  pad_byte : (at : ℕ) → Byte (pad_read (loaded m at) m.core.joypad.state)
  unfolding pad_read
  pad_byte at =
      cond_both (λ (n : ℕ). Byte (loaded m at / 16 * 16 + n)) (directions_answer (loaded m at)) (omega (arith, loaded_byte f at))
      (omega (arith, loaded_byte f at, f.joypad.1))

  forced_byte : (at : ℕ) {bits : ℕ} → bits < 256 → Byte (bit_or (loaded m at) bits)
  forced_byte at {bits} h = or_lt 8 (loaded m at) bits (loaded_byte f at) h

  kind_byte : {a c : ℕ} → Byte a → Byte c → Byte (by_kind m.core.banks.colour a c)
  unfolding by_kind
  kind_byte p q = cond_both Byte m.core.banks.colour p q

  line_byte : Byte (line_read m.core.lcd)
  unfolding line_read
  line_byte = cond_both Byte m.core.lcd.disabled (lit< tt) f.lcd.line

  plain_byte : (at : ℕ) → Byte (plain_read (loaded m at) sound at)
  unfolding plain_read
  plain_byte at = cond_both Byte (ltb at 0x10) (loaded_byte f at) (cond_both Byte (ltb at 0x40) (b _) (loaded_byte f at))

  register_byte : (at : ℕ) → Byte (read_register m sound at)
  unfolding read_register shown_as
  register_byte at =
      cond_both Byte (eqb at 0x00) (pad_byte at)
      (cond_both Byte (eqb at 0x03) (lit< tt)
      (cond_both Byte (eqb at 0x07) (forced_byte at (lit< tt))
      (cond_both Byte (eqb at 0x0E) (lit< tt)
      (cond_both Byte (eqb at 0x0F) (forced_byte at (lit< tt))
      (cond_both Byte (eqb at 0x41) (forced_byte at (lit< tt))
      (cond_both Byte (eqb at 0x44) line_byte
      (cond_both Byte (eqb at 0x4C) (lit< tt)
      (cond_both Byte (eqb at 0x4F) (forced_byte at (lit< tt))
      (cond_both Byte (eqb at 0x68) (kind_byte (forced_byte at (lit< tt)) (lit< tt))
      (cond_both Byte (eqb at 0x69) (kind_byte (forced_byte at (lit< tt)) (lit< tt))
      (cond_both Byte (eqb at 0x6A) (kind_byte (forced_byte at (lit< tt)) (lit< tt))
      (cond_both Byte (eqb at 0x6B) (kind_byte (forced_byte at (lit< tt)) (lit< tt))
      (cond_both Byte (eqb at 0x70) (kind_byte (forced_byte at (lit< tt)) (lit< tt))
      (cond_both Byte (eqb at 0x76) (kind_byte (lit< tt) (lit< tt))
      (cond_both Byte (eqb at 0x77) (kind_byte (lit< tt) (lit< tt))
      (plain_byte at))))))))))))))))

-- What is written

module _ (w : World) (g : Whole w) (v : ℕ) (b : v < 256) where
  state_whole : {m : Memory} → Fine m → Whole (record { state = m; vram = w.vram; wram = w.wram; save = w.save; log = w.log })
  state_whole f = record { state = f; vram = g.vram; wram = g.wram; save = g.save }

  saved_whole : (i : ℕ) (a : Option Stored) → answer w.state.core.cartridge w.state.core.mapper i v ≡ a
      → Whole (saved a (in_state w (mapper_put w.state i v)))
  saved_whole i (Some k) e =
      let s = stored_within w.state.core.cartridge w.state.core.mapper i v k b e in
      record {
        state = used_fine (mapper_fine g.state _) (w.state.core.used + width);
        vram = g.vram;
        wram = g.wram;
        save = below_set 256 w.save k.at k.value g.save s.1.1;
      }
  saved_whole i None e = state_whole (mapper_fine g.state _)

  save_whole : (i : ℕ) → Whole (save_put w i v)
  unfolding save_put
  save_whole i = cond_both Whole (full (length w.log) w.state.core.used 1) g (saved_whole i _ refl)

  put_in_whole : (r : Region) (i : ℕ) → Whole (put_in r w i v)
  put_in_whole Rom i = state_whole (mapper_fine g.state _)
  put_in_whole Vram i = record { state = g.state; vram = below_set 256 w.vram _ v g.vram b; wram = g.wram; save = g.save }
  put_in_whole Save i = save_whole i
  put_in_whole Wram i = record { state = g.state; vram = g.vram; wram = below_set 256 w.wram _ v g.wram b; save = g.save }
  put_in_whole Oam i = state_whole (oam_fine g.state (page_set (i - 0xFE00) g.state.oam b))
  put_in_whole Page i = state_whole (write_fine g.state v b (i - 0xFF00))

  put_whole : (index : ℕ) → Whole (put w index v)
  put_whole index = put_in_whole (region_of index) index

-- so copies, and all calls

module _ (x : Fixed) (rom : Below 256 x.rom) (sound : Below 256 x.sound) where
  byte_in_law : (w : World) → Whole w → (r : Region) (i : ℕ) → Byte (byte_in r x w.state w.vram w.wram w.save i)
  byte_in_law w g Rom i = mapped_byte x.rom w.save rom g.save w.state.core.cartridge w.state.core.mapper i
  byte_in_law w g Vram i = g.vram _
  byte_in_law w g Save i = mapped_byte x.rom w.save rom g.save w.state.core.cartridge w.state.core.mapper i
  byte_in_law w g Wram i = g.wram _
  byte_in_law w g Oam i = g.state.oam.bytes _
  byte_in_law w g Page i = register_byte g.state x.sound sound (i - 0xFF00)

  read_byte : (w : World) → Whole w → (index : ℕ) → Byte (read_in x w index)
  read_byte w g index = byte_in_law w g (region_of index) index

  abbrev Writes : (World → ℕ → ℕ → World) → Type 0
  Writes f = (w : World) → Whole w → (index v : ℕ) → v < 256 → Whole (f w index v)

  copy_whole : (f : World → ℕ → ℕ → World) → Writes f → (from to n : ℕ) (w : World) → Whole w → Whole (copy_by x f from to n w)
  unfolding copy_by
  copy_whole f k from to zero w g = g
  copy_whole f k from to (suc n) w g = let u = copy_whole f k from to n w g in k _ u _ _ (read_byte _ u _)

  pub after_whole : (f : World → ℕ → ℕ → World) → Writes f → (c : Copy) (v : ℕ) (w : World) → Whole w → Whole (transferred x f c v w)
  after_whole f k c v w g =
      let u = copy_whole f k c.source c.destination c.count w g in
      record { state = finished_fine u.state c.finish v; vram = u.vram; wram = u.wram; save = u.save }

  pub write_whole : (d : ℕ) → Writes (write_at x d)
  unfolding write_at
  write_whole zero w g index v b = put_whole w g v b index
  write_whole (suc d) w g index v b =
      after_whole (write_at x d) (write_whole d) (copy_of w.state index v) v (put w index v) (put_whole w g v b index)

  pub word_whole : (w : World) → Whole w → (index v : ℕ) → v < 65536 → Whole (word_at x w index v)
  unfolding word_at
  word_whole w g index v b = write_whole 2 _ (write_whole 2 w g index (v % 256) (omega arith)) _ (v / 256) (omega arith)
