-- What a byte write leaves: the save with what the mapper lets in, the log's used bytes with its record behind them, the mapper's registers after it.
use mathlib.Core.Bool.{true, false, ◌&&◌}
use mathlib.Core.List.{List, [], ◌++◌, append-nil}
use mathlib.Core.Logic.{◌⊎◌, inl, inr, ⊎_elim}
use mathlib.Core.Path.{◌≡◌, refl, ap, sym, ◌∙◌}
use Prim.Native.Nat.{ℕ, ◌+◌, ◌*◌, ◌≤◌}
use native.Mathlib.Omega.{arith}
use lib.Dec.{ltb, leb}
use lib.ListN.{length}
use borrow.Author.Tests.{ltb-true, leb-true}
use Rattle.rules.proofs.Tests.{both_true, by_cond, or_cases, untrue}
use Rattle.mbc.proofs.Laws.{mapped_rom, mapped_ram}
use Rattle.mbc.specs.Mbc.{mapped, after, answer}
use Rattle.mbc.specs.declared.mbc.Mapper.{Mapper}
use Rattle.mbc.specs.declared.mbc.Stored.{Stored}
use Rattle.std.specs.Prelude.{Option, Some, None}
use Rattle.memory.proofs.Regions.{within, region_at}
use Rattle.memory.specs.Region.{region_of}
use Rattle.memory.specs.World.{World, Fixed, with_mapper}
use Rattle.memory.specs.declared.region.Region.{Region}
use Rattle.memory.specs.declared.region.Region.TheVariants.{Rom, Save}
use Rattle.mmu.proofs.Saves.{Spares, Outside, put_spares, transfer_spares, copy_clear}
use Rattle.mmu.specs.Access.{mapper_put, saved, save_put, in_state, put_in, put}
use Rattle.mmu.specs.Write.{write_at}
use Rattle.refusals.proofs.Window.{in_save_true, in_save_false, in_save_at}
use Rattle.registers.specs.Transfers.{copy_of}
use Rattle.savelog.proofs.Use.{lacks_room, appended_length, used_more}
use Rattle.savelog.specs.Log.{width, apply_all, full}
use Rattle.savelog.specs.declared.Rec.{Rec}
use Rattle.promise.specs.Bus.{in_save}
use Rattle.promise.specs.Calls.{byte}
use Rattle.promise.specs.Admitted.{mapper_after, answered, let_in, records_of}
use Rattle.promise.specs.Runs.{used_bytes}
use Rattle.promise.proofs.Mappers.{saved_mapper, put_unasked, transfer_mapper, copy_high}

-- One byte write from w to u: `w` gives the mapper, `rs` is what it lets in

pub record Stores (rs : List Rec) (w u : World) : Type 0 where
  pub save : u.save ≡ apply_all w.save rs
  pub log : used_bytes u ≡ used_bytes w ++ records_of rs
  pub grown : u.state.core.used ≤ w.state.core.used + width
  pub used : u.state.core.used ≡ w.state.core.used + length rs * width
  pub same : length u.log ≡ length w.log

stores_none : (w u : World) → Spares w u → Stores [] w u
unfolding apply_all records_of
stores_none w u s =
    record {
      save = s.save;
      log = rw (s.used, s.log, append-nil);
      grown = rw s.used (omega arith);
      used = rw s.used (omega arith);
      same = rw s.log;
    }

-- whatever mapper is put before
saved_stores : (w : World) (m : Mapper) (a : Option Stored) → w.state.core.used + width ≤ length w.log
    → Stores (answered a) w (saved a (in_state w (with_mapper w.state m)))
unfolding apply_all records_of
saved_stores w m (Some x) h =
    record {
      save = refl;
      log = rw append-nil (used_more w.log w.state.core.used x.at x.value h);
      grown = omega arith;
      used = omega arith;
      same = appended_length w.log w.state.core.used x.at x.value h;
    }
saved_stores w m None h = stores_none w _ (record { save = refl; log = refl; used = refl })

stores_spared : (rs : List Rec) (w u y : World) → Stores rs w u → Spares u y → Stores rs w y
stores_spared rs w u y s p =
    record {
      save = p.save ∙ s.save;
      log = rw (p.used, p.log) s.log;
      grown = rw p.used s.grown;
      used = rw p.used s.used;
      same = rw p.log s.same;
    }

-- The window A000..BFFF, and where the bus asks the mapper

pub outside_save : (i : ℕ) → in_save i ≡ false → Outside i
outside_save i f a b = in_save_false i f (region_at Save i (a, b))

asked : (i : ℕ) → mapped i ≡ true → (region_of i ≡ Rom) ⊎ (region_of i ≡ Save)
unfolding mapped
asked i t =
    ⊎_elim (λ a. inl (region_at Rom i (ltb-true i 0x8000 a)))
    (λ a.
    let b = both_true (leb 0xA000 i) (ltb i 0xC000) a in
    inr (region_at Save i (leb-true 0xA000 i b.0, ltb-true i 0xC000 b.1)))
    (or_cases (ltb i 0x8000) (leb 0xA000 i && ltb i 0xC000) t)

-- A byte, before the transfer that it may start

module _ (w : World) (i v : ℕ) where
  abbrev lets : List Rec
  lets = let_in w.state.core.cartridge w.state.core.mapper (byte i v)

  abbrev Room : Type 0
  Room = in_save i ≡ true → w.state.core.used + width ≤ length w.log

  abbrev asked_for : Option Stored
  asked_for = answer w.state.core.cartridge w.state.core.mapper i v

  abbrev turned : World
  turned = in_state w (mapper_put w.state i v)

  abbrev done : World
  done = saved asked_for turned

  save_done : w.state.core.used + width ≤ length w.log → save_put w i v ≡ done
  unfolding save_put
  save_done h =
      by_cond (λ (u : World). u ≡ done) (full (length w.log) w.state.core.used 1) w done
      (λ t. absurd (omega (arith, lacks_room (length w.log) w.state.core.used 1 t))) (λ f. refl)

  put_done : Room → region_of i ≡ Save → put w i v ≡ done
  put_done room e = ap (λ (r : Region). put_in r w i v) e ∙ save_done (room (in_save_at i e))

  put_stores : Room → Stores lets w (put w i v)
  unfolding let_in
  put_stores room =
      by_cond (λ (rs : List Rec). Stores rs w (put w i v)) (in_save i) _ []
      (λ t. rw (put_done room (in_save_true i t)) (saved_stores w (after w.state.core.cartridge w.state.core.mapper i v) asked_for (room t)))
      (λ f. stores_none w (put w i v) (put_spares w i v (outside_save i f)))

  put_after : Room → (put w i v).state.core.mapper ≡ mapper_after w.state.core.cartridge w.state.core.mapper (byte i v)
  unfolding mapper_after
  put_after room =
      by_cond (λ (m : Mapper). (put w i v).state.core.mapper ≡ m) (mapped i) _ _
      (λ t.
      ⊎_elim (λ a. ap (λ (r : Region). (put_in r w i v).state.core.mapper) a)
      (λ b. ap (λ (u : World). u.state.core.mapper) (put_done room b) ∙ saved_mapper turned asked_for) (asked i t))
      (λ f.
      put_unasked w i v (λ e. untrue (sym f ∙ mapped_rom i (within i e)))
      (λ e. let b = within i e in untrue (sym f ∙ mapped_ram i b.0 b.1)))

-- with it

module _ (x : Fixed) (w : World) (i v : ℕ) where
  pub write_spared : Spares (put w i v) (write_at x 2 w i v)
  unfolding write_at
  write_spared = transfer_spares x 1 (copy_of w.state i v) (copy_clear w.state i v) v (put w i v)

  pub write_stores : Room w i v → Stores (lets w i v) w (write_at x 2 w i v)
  write_stores room = stores_spared _ _ _ _ (put_stores w i v room) write_spared

  pub write_after : Room w i v
      → (write_at x 2 w i v).state.core.mapper ≡ mapper_after w.state.core.cartridge w.state.core.mapper (byte i v)
  unfolding write_at
  write_after room =
      transfer_mapper x 1 (copy_of w.state i v) (copy_high w.state i v) (copy_clear w.state i v) v (put w i v) ∙ put_after w i v room
