-- A byte put: what it leaves is a state in range with the types of one, and the image changed in place is that state's.
use mathlib.Core.Bool.{true}
use mathlib.Core.List.{List}
use mathlib.Core.Path.{◌≡◌, refl, sym}
use Prim.Native.Nat.{ℕ, ◌+◌, ◌-◌, ◌<◌}
use native.Mathlib.Omega.{arith}
use lib.ListN.{length, set}
use Rattle.image.proofs.PatchLaws.{joypad_bytes, div_byte, typed_with, typed_bytes, bytes_set, oam_image}
use Rattle.image.specs.Laws.{Typed}
use Rattle.image.specs.Layout.{image_of}
use Rattle.image.specs.Load.{storable}
use Rattle.in_place.proofs.Fine.{typed_fine, fine_typed, write_fine}
use Rattle.mbc.specs.Mbc.{after, answer}
use Rattle.mbc.specs.declared.mbc.Stored.{Stored}
use Rattle.std.proofs.Common.{Option, Some, None}
use Rattle.memory.proofs.Regions.{within}
use Rattle.memory.specs.Ranges.{state_in_range}
use Rattle.memory.specs.Region.{region_of}
use Rattle.memory.specs.World.{World, with_oam}
use Rattle.memory.specs.declared.Memory.{Memory}
use Rattle.memory.specs.declared.region.Region.{Region}
use Rattle.memory.specs.declared.region.Region.TheVariants.{Rom, Vram, Save, Wram, Oam, Page}
use Rattle.mmu.proofs.Places.{put_by}
use Rattle.mmu.specs.Access.{mapper_put, saved, save_put, in_state, put_in, put}
use Rattle.registers.specs.Page.{write_register}
use Rattle.rules.proofs.Tests.{cond_both}
use Rattle.savelog.specs.Log.{width, full}
use Rattle.put_bytes.specs.Puts.{own_put}

-- What it leaves has the types of a state

abbrev TypedIn : World → Type 0
TypedIn w = Typed w.state

module _ (w : World) (t : Typed w.state) (i v : ℕ) (hv : v < 256) where
  mapper_typed : Typed (mapper_put w.state i v)
  mapper_typed =
      typed_with w.state t w.state.oam w.state.page w.state.core.joypad w.state.core.clock (after w.state.core.cartridge w.state.core.mapper i v)
      w.state.core.used t.oam t.page (joypad_bytes t).0 (joypad_bytes t).1 (div_byte t)

  saved_typed : (a : Option Stored) → TypedIn (saved a (in_state w (mapper_put w.state i v)))
  saved_typed (Some k) =
      typed_with w.state t w.state.oam w.state.page w.state.core.joypad w.state.core.clock (after w.state.core.cartridge w.state.core.mapper i v)
      (w.state.core.used + width) t.oam t.page (joypad_bytes t).0 (joypad_bytes t).1 (div_byte t)
  saved_typed None = mapper_typed

  save_typed : TypedIn (save_put w i v)
  unfolding save_put
  save_typed =
      cond_both TypedIn (full (length w.log) w.state.core.used 1) t (saved_typed (answer w.state.core.cartridge w.state.core.mapper i v))

  oam_typed : Typed (with_oam w.state (set w.state.oam (i - 0xFE00) v))
  oam_typed =
      typed_bytes w.state t (set w.state.oam (i - 0xFE00) v) w.state.page (bytes_set w.state.oam (i - 0xFE00) v t.oam hv) t.page

  register_typed : state_in_range w.state ≡ true → Typed (write_register w.state (i - 0xFF00) v)
  register_typed h = fine_typed _ (write_fine (typed_fine w.state t h) v hv (i - 0xFF00))

  put_in_typed : (r : Region) → state_in_range w.state ≡ true → TypedIn (put_in r w i v)
  put_in_typed Rom h = mapper_typed
  put_in_typed Vram h = t
  put_in_typed Save h = save_typed
  put_in_typed Wram h = t
  put_in_typed Oam h = oam_typed
  put_in_typed Page h = register_typed h

pub put_typed : (w : World) → Typed w.state → state_in_range w.state ≡ true → (index v : ℕ) → v < 256 → Typed (put w index v).state
put_typed w t h index v hv = put_in_typed w t index v hv (region_of index) h

-- A byte of OAM or a register in the image: what a write leaves, as the world with another state, and that the image j is its
pub record Own (w : World) (index v : ℕ) (j : List ℕ) : Type 0 where
  pub next : Memory
  pub same : in_state w next ≡ put w index v
  pub image : j ≡ image_of next

module _ (w : World) (t : Typed w.state) (h : storable w.state ≡ true) (i v : ℕ) (hv : v < 256) where
  pub own_oam : region_of i ≡ Oam → Own w i v (own_put (image_of w.state) i v)
  own_oam e =
      let b = within i e in
      record {
        next = with_oam w.state (set w.state.oam (i - 0xFE00) v);
        same = put_by w i v e refl;
        image = sym (oam_image w.state t h (i - 0xFE00) v (omega (arith, b.0, b.1)) hv);
      }
