-- A fresh bus, over any bytes: every call can be made on it, so a row holds if what is seen quickly is due.
use mathlib.Core.Bool.{Bool, true, false}
use mathlib.Core.List.{List, [], ◌∷◌, map}
use mathlib.Core.Path.{◌≡◌, refl}
use native.Mathlib.Omega.{arith}
use lib.ListN.{length, replicate, length-replicate}
use borrow.Author.Tests.{eq-eqb, le-leb}
use Rattle.bus.specs.Fresh.{begun, fresh_refused, beginning}
use Rattle.dispatch.proofs.Open.{Good}
use Rattle.dispatch.specs.Lent.{fits}
use Rattle.mbc.specs.Mbc as mbc
use Rattle.mbc.specs.declared.cartridge.Cartridge.{Cartridge}
use Rattle.mbc.specs.declared.mbc.Mapper.{Mapper}
use Rattle.memory.proofs.Laws.{fresh_range}
use Rattle.memory.specs.Ranges.{vram_len, wram_len, sound_len}
use Rattle.memory.specs.Start.{started}
use Rattle.memory.specs.World.{World, world}
use Rattle.numbers.specs.Numbers.{done}
use Rattle.refusals.specs.Refusal.{or_else, lent_refused, lengths_fit, lengths_refused, log_refused}
use Rattle.savelog.specs.Log.{use_in_range}
use Rattle.corners.specs.Rows.{Lent, bytes, log_len, Description, Line, fresh_on, fixed_on, seen_on, due, due_on}
use Rattle.corners.proofs.Bytes.{bytes_length}
use Rattle.corners.proofs.Quick.{quickly, seen_quickly}

abbrev cartridge : Description → Cartridge
cartridge d = mbc.cartridge_of d.banks d.code

abbrev mapper : Description → Mapper
mapper d = mbc.start d.kind

-- a description that document 01 allows
pub record Allowed (d : Description) : Type 0 where
  pub fresh : mbc.fresh d.kind d.banks d.code ≡ record { number = done; cartridge = cartridge d; mapper = mapper d }
  pub described : mbc.described (cartridge d) (mapper d) ≡ true

abbrev pub start_on : Lent → Description → Bool → World
start_on lent d colour =
    world (started (cartridge d) (mapper d) colour) (replicate (vram_len colour) 0) (replicate (wram_len colour) 0)
    (bytes lent.save 0 (mbc.ram_len (cartridge d) (mapper d))) (bytes lent.log 0 log_len)

lengths_open : (c : Cartridge) (m : Mapper) (colour : Bool)
    → lengths_refused (started c m colour).core (mbc.rom_len c) (vram_len colour) (wram_len colour) (mbc.ram_len c m) sound_len ≡ 0
unfolding lengths_refused lengths_fit started
lengths_open c m colour =
    rw (eq-eqb (mbc.rom_len c) _ refl, eq-eqb (vram_len colour) _ refl, eq-eqb (wram_len colour) _ refl, eq-eqb (mbc.ram_len c m) _ refl)

module _ (lent : Lent) (d : Description) (a : Allowed d) (colour : Bool) where
  fresh_open : fresh_on lent d colour ≡ begun done (started (cartridge d) (mapper d) colour) (replicate (vram_len colour) 0) (replicate (wram_len colour) 0)
  unfolding beginning fresh_refused or_else lent_refused log_refused
  fresh_open =
      rw (
        a.fresh,
        bytes_length lent.vram 0 (vram_len colour),
        bytes_length lent.wram 0 (wram_len colour),
        lengths_open (cartridge d) (mapper d) colour,
      )

  start_good : Good (start_on lent d colour)
  unfolding started use_in_range
  start_good =
      record {
        holds = record {
          state = fresh_range (cartridge d) d.kind colour a.described;
          vram = length-replicate (vram_len colour) 0;
          wram = length-replicate (wram_len colour) 0;
          save = bytes_length lent.save 0 _;
          log = rw (bytes_length lent.log 0 log_len) (omega arith);
        };
        used = rw (le-leb 0 (length (bytes lent.log 0 log_len)) (omega arith));
      }

  start_right : fits (start_on lent d colour).state.core.cartridge (fixed_on lent d) ≡ true
  unfolding started
  start_right = rw (eq-eqb _ _ (bytes_length lent.rom 0 (mbc.rom_len (cartridge d))), bytes_length lent.sound 0 sound_len)

  pub seen_on_law : (ls : List Line) → seen_on lent d ls colour ≡ (done ∷ []) ∷ quickly (fixed_on lent d) (start_on lent d colour) ls
  unfolding seen_on
  seen_on_law ls = rw (fresh_open, seen_quickly (fixed_on lent d) (start_on lent d colour) start_good start_right ls)

-- a row on one kind of machine, and on both
module _ (lent : Lent) (d : Description) (a : Allowed d) (ls : List Line) where
  pub on_one : (colour : Bool) → quickly (fixed_on lent d) (start_on lent d colour) ls ≡ due ls
      → map (seen_on lent d ls) (colour ∷ []) ≡ map (due_on ls) (colour ∷ [])
  on_one colour e = rw (seen_on_law lent d a colour ls, e)

  pub on_both : quickly (fixed_on lent d) (start_on lent d false) ls ≡ due ls → quickly (fixed_on lent d) (start_on lent d true) ls ≡ due ls
      → map (seen_on lent d ls) (false ∷ true ∷ []) ≡ map (due_on ls) (false ∷ true ∷ [])
  on_both e f = rw (seen_on_law lent d a false ls, seen_on_law lent d a true ls, e, f)
