-- A mapper's own calls on the image: its registers and the cartridge are those of the state, and the registers put make the image of the state after. A mapper
-- of an image that is taken is in range, so a write is refused by its index alone.
use mathlib.Core.Bool.{true, false}
use mathlib.Core.List.{List}
use mathlib.Core.Path.{◌≡◌, refl, sym, ap, subst, ◌∙◌}
use Prim.Native.Nat.{ℕ, ◌<◌}
use native.Mathlib.Omega.{arith}
use Rattle.image.proofs.GroupPatches.{loaded_core}
use Rattle.image.proofs.LoadedPatches.{loaded_storable, loaded_mapping}
use Rattle.image.proofs.MappedLaws.{load_mapped}
use Rattle.image.proofs.PatchLaws.{slim}
use Rattle.image.specs.Load.{cartridge_of, registers_in, storable, load_call}
use Rattle.image.specs.Patches.{fields, Mapped, Slim, mapping_put}
use Rattle.mbc.proofs.Sources.{in_rom}
use Rattle.mbc.specs.Mbc as mbc
use Rattle.mbc.specs.Mbc.{mapper_of, in_range, answer, after, read_byte, wrote_as, write_byte}
use Rattle.mbc.specs.declared.cartridge.Cartridge.{Cartridge}
use Rattle.std.specs.Prelude.{Option, Some, None}
use Rattle.mbc.specs.declared.mbc.Mapper.{Mapper}
use Rattle.mbc.specs.Answers.{ReadByte}
use Rattle.mbc.specs.declared.held.Registers.{Registers}
use Rattle.memory.specs.World.{with_mapper}
use Rattle.memory.specs.declared.Core.{Core}
use Rattle.memory.specs.declared.Memory.{Memory}
use Rattle.packing.specs.Packing.{Below}
use Rattle.put_bytes.proofs.PutLaws.{mapper_storable, mapped_range}
use Rattle.put_bytes.specs.Puts.{core_in}
use Rattle.entry.proofs.Entries.{unloaded_mapper_read, mapper_read, unloaded_mapper, refused_mapper, done_mapper}
use Rattle.entry.specs.Entry.{given, mapper_read_entry, answer_number, mapped, mapper_write_entry}

-- a write by its index

module _ (c : Cartridge) (m : Mapper) (k v : ℕ) (e : in_range c m ≡ true) where
  write_outside : mbc.mapped k ≡ false → wrote_as 7 m None ≡ write_byte c m k v
  unfolding write_byte
  write_outside h = rw (e, h)

  write_done : mbc.mapped k ≡ true → wrote_as 0 (after c m k v) (answer c m k v) ≡ write_byte c m k v
  unfolding write_byte
  write_done h = rw (e, h)

-- below 8000 nothing is stored
pub rom_answer : (c : Cartridge) (m : Mapper) (k v : ℕ) → k < 0x8000 → 0 ≡ answer_number (answer c m k v)
rom_answer c m k v h = rw (in_rom c m k h)

module _ (i : List ℕ) {n : ℕ} (e : n ≡ (load_call i).number) where
  module _ (h : n ≡ 0 → ⊥) where
    pub closed_read : (rom save : List ℕ) (k : ℕ) → given n 0 ≡ mapper_read_entry i rom save k
    closed_read rom save k = rw e (unloaded_mapper_read i {d = load_call i} refl (λ z. h (e ∙ z)) rom save k)

    pub closed_write : (k v : ℕ) → mapped n 0 i ≡ mapper_write_entry i k v
    closed_write k v = rw e (unloaded_mapper i {d = load_call i} refl (λ z. h (e ∙ z)) k v)

  module _ (z : n ≡ 0) (below : Below 256 i) where
    abbrev state : Memory
    state = (load_call i).state

    taken : (load_call i).number ≡ 0
    taken = sym e ∙ z

    core_is : core_in i ≡ state.core
    core_is = sym (loaded_core i below taken)

    pub open_mapped : Mapped i
    open_mapped = load_mapped i below taken

    state_range : in_range state.core.cartridge state.core.mapper ≡ true
    state_range = rw (← core_is) (mapped_range i open_mapped)

    module _ {r : Registers} {m : Mapper} {c : Cartridge} (a : r ≡ registers_in (fields i)) (b : m ≡ mapper_of r) (d : c ≡ cartridge_of (fields i)) where
      mapper_is : m ≡ state.core.mapper
      mapper_is = b ∙ ap mapper_of a ∙ ap (λ (k : Core). k.mapper) core_is

      cartridge_is : c ≡ state.core.cartridge
      cartridge_is = d ∙ ap (λ (k : Core). k.cartridge) core_is

      pub read_range : in_range c m ≡ true
      read_range = rw (cartridge_is, mapper_is) state_range

      pub done_read : (rom save : List ℕ) (k : ℕ) {o : ReadByte} → o ≡ read_byte c m rom save k → given o.number o.value ≡ mapper_read_entry i rom save k
      done_read rom save k f = mapper_read i {d = load_call i} refl taken rom save k (f ∙ rw (cartridge_is, mapper_is))

    module _ (k v : ℕ) where
      abbrev next : Memory
      next = with_mapper state (after state.core.cartridge state.core.mapper k v)

      put_storable : storable next ≡ true
      put_storable = mapper_storable state (loaded_storable i below taken) k v

      pub after_slim : Slim (after (core_in i).cartridge (core_in i).mapper k v)
      after_slim = subst (λ (d : Core). Slim (after d.cartridge d.mapper k v)) (sym core_is) (slim next put_storable)

      pub outside_write : mbc.mapped k ≡ false → mapped 7 0 i ≡ mapper_write_entry i k v
      outside_write h =
          refused_mapper i {d = load_call i} refl taken k v (write_outside state.core.cartridge state.core.mapper k v state_range h) (λ q. omega (arith, q))

      pub done_write : mbc.mapped k ≡ true → {x : ℕ} {j : List ℕ} → x ≡ answer_number (answer (core_in i).cartridge (core_in i).mapper k v)
          → j ≡ mapping_put i (after (core_in i).cartridge (core_in i).mapper k v) (core_in i).used → mapped 0 x j ≡ mapper_write_entry i k v
      done_write h p g =
          done_mapper i {d = load_call i} refl taken k v (write_done state.core.cartridge state.core.mapper k v state_range h) refl
          (p ∙ ap (λ (d : Core). answer_number (answer d.cartridge d.mapper k v)) core_is) refl
          (g
          ∙ ap (λ (d : Core). mapping_put i (after d.cartridge d.mapper k v) d.used) core_is
          ∙ loaded_mapping i below taken next.core.mapper state.core.used put_storable)
