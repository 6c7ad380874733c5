-- Lists of byte writes: what they leave together, and the laws of the promise's lists.
use mathlib.Core.List.{List, [], ◌∷◌, ◌++◌, append_assoc, append-nil}
use mathlib.Core.Path.{◌≡◌, refl, sym, ◌∙◌}
use Prim.Native.Nat.{ℕ, ◌+◌, ◌*◌}
use native.Mathlib.Omega.{arith}
use lib.ListN.{length, length-append}
use Rattle.memory.specs.World.{World}
use Rattle.mmu.proofs.Laws.{Stays, stays_refl, stays_trans}
use Rattle.mmu.proofs.Saves.{Spares}
use Rattle.mmu.specs.Access.{Holds}
use Rattle.rules.proofs.Tests.{cond_both}
use Rattle.savelog.proofs.Prefix.{apply_all_append}
use Rattle.savelog.specs.Log.{width, apply_all, joined}
use Rattle.savelog.specs.declared.Rec.{Rec}
use Rattle.promise.specs.Bus.{refused}
use Rattle.promise.specs.Calls.{ByteWrite}
use Rattle.promise.specs.Admitted.{granted, mapper_after, mappers_after, let_in, let_in_all, records_of}
use Rattle.promise.specs.Runs.{used_bytes}
use Rattle.promise.proofs.Mappers.{SameMapper}
use Rattle.promise.proofs.Writes.{Stores}

pub records_join : (a b : List Rec) → records_of (a ++ b) ≡ records_of a ++ records_of b
unfolding records_of
records_join [] b = refl
records_join (r ∷ a) b = rw (records_join a b, append_assoc)

pub joined_append : (a b : List (List ℕ)) → joined (a ++ b) ≡ joined a ++ joined b
unfolding joined
joined_append [] b = refl
joined_append (c ∷ a) b = rw (joined_append a b, append_assoc)

-- of no byte write none is granted, whatever the number
pub none_granted : (n : ℕ) (bs : List ByteWrite) → bs ≡ [] → granted n bs ≡ []
unfolding granted
none_granted n bs e = cond_both (λ (ws : List ByteWrite). ws ≡ []) (refused n) refl e

-- no byte write reached the mapper or the save
pub record Quiet (w u : World) : Type 0 where
  pub stays : Stays w u
  pub spares : Spares w u
  pub mapper : SameMapper w u

pub quiet_refl : (w : World) → Holds w → Quiet w w
quiet_refl w h = record { stays = stays_refl w h; spares = record { save = refl; log = refl; used = refl }; mapper = refl }

-- one byte write, and then a list of them
pub record Made (b : ByteWrite) (w u : World) : Type 0 where
  pub stays : Stays w u
  pub mapper : u.state.core.mapper ≡ mapper_after w.state.core.cartridge w.state.core.mapper b
  pub stores : Stores (let_in w.state.core.cartridge w.state.core.mapper b) w u

pub record Left (bs : List ByteWrite) (w u : World) : Type 0 where
  pub stays : Stays w u
  pub mapper : u.state.core.mapper ≡ mappers_after w.state.core.cartridge w.state.core.mapper bs
  pub save : u.save ≡ apply_all w.save (let_in_all w.state.core.cartridge w.state.core.mapper bs)
  pub log : used_bytes u ≡ used_bytes w ++ records_of (let_in_all w.state.core.cartridge w.state.core.mapper bs)
  pub used : u.state.core.used ≡ w.state.core.used + length (let_in_all w.state.core.cartridge w.state.core.mapper bs) * width
  pub size : length u.log ≡ length w.log

pub left_none : (w u : World) → Quiet w u → Left [] w u
unfolding mappers_after let_in_all apply_all records_of
left_none w u q =
    record {
      stays = q.stays;
      mapper = q.mapper;
      save = q.spares.save;
      log = rw (q.spares.used, q.spares.log, append-nil);
      used = rw q.spares.used (omega arith);
      size = rw q.spares.log;
    }

pub left_more : {b : ByteWrite} {bs : List ByteWrite} {w u y : World} → Made b w u → Left bs u y → Left (b ∷ bs) w y
unfolding mappers_after let_in_all
left_more {b} {bs} {w} {u} {y} m l =
    let c = w.state.core.cartridge in
    let k = let_in c w.state.core.mapper b in
    let ks = let_in_all c (mapper_after c w.state.core.mapper b) bs in
    let e : let_in_all u.state.core.cartridge u.state.core.mapper bs ≡ ks = rw (m.stays.cartridge, m.mapper) in
    record {
      stays = stays_trans m.stays l.stays;
      mapper = l.mapper ∙ rw (m.stays.cartridge, m.mapper);
      save = l.save ∙ (rw (e, m.stores.save) (sym (apply_all_append w.save k ks)));
      log = l.log ∙ (rw (e, m.stores.log, records_join k ks, append_assoc));
      used = l.used ∙ (rw (e, m.stores.used, length-append k ks) (omega arith));
      size = l.size ∙ m.stores.same;
    }
