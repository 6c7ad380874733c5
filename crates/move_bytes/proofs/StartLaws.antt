-- The writes of FF46 and FF55: the image after the byte is one that is taken, of the state after it, and the transfer starts from there.
use Rattle.std.proofs.Common.{◌≡◌, ℕ, ◌<◌, Bool, true, false, List, [], set, sym, refl, ap, ◌∙◌, subst, arith}
use Rattle.hdma.proofs.Laws.{by_start}
use Rattle.hdma.specs.Hdma.{starts, source_used, destination_used}
use Rattle.hdma.specs.declared.Hdma.{Hdma}
use Rattle.hdma.specs.declared.Start.{Start}
use Rattle.hdma.specs.declared.Start.TheVariants as start
use Rattle.hdma.specs.declared.Written.{Written}
use Rattle.image.proofs.PatchLaws.{hdma_words}
use Rattle.image.proofs.Round.{state_back}
use Rattle.in_place.proofs.Images.{kept_storable}
use Rattle.image.specs.Laws.{Typed}
use Rattle.image.specs.Layout.{image_of}
use Rattle.image.specs.Load.{storable, load_call}
use Rattle.image.specs.Load.{Loaded}
use Rattle.memory.proofs.Laws.{hdma_parts, parts_hdma, range_hdma, transfer_range}
use Rattle.memory.specs.World.{world, Fixed}
use Rattle.memory.specs.declared.Core.{Core}
use Rattle.memory.specs.declared.Memory.{Memory}
use Rattle.mmu.proofs.Laws.{kept_stays, stays_ready, write_transfer}
use Rattle.mmu.specs.Access.{Ready, in_state}
use Rattle.mmu.specs.Write.{copy_by, transferred, starting, write_at}
use Rattle.registers.proofs.Kept as state
use Rattle.registers.specs.Register.{register_of, byte_as}
use Rattle.registers.specs.State.{stored}
use Rattle.copies.specs.Copies.{nothing, oam_copy}
use Rattle.registers.specs.Transfers.{transfer_put, block_copy, general_copy, started_by, started, copy_of, finished}
use Rattle.copies.specs.declared.Copy.{Copy}
use Rattle.registers.specs.declared.transfers.Started.{Started}
use Rattle.rules.proofs.Tests.{cond_true, cond_false}
use Rattle.put_bytes.specs.Left.{left, world_of, left_by}
use Rattle.move_bytes.specs.Transfers.{Lent, Own, Moved, Wrote, Kept}
use Rattle.move_bytes.proofs.ImageLaws.{stored_image, stored_typed, written_typed}
use Rattle.move_bytes.proofs.RowLaws.{own}
use Rattle.move_bytes.proofs.MoveLaws.{lent_typed, lent_storable, lent_image}

-- the image of a state that a write left
pub record Next (x : Fixed) (m : Memory) (v w s : List ℕ) (j : List ℕ) : Type 0 where
  pub lent : Lent x j m.core v w s
  pub same : (load_call j).state ≡ m

module _ {x : Fixed} {i : List ℕ} {c : Core} {v w s : List ℕ} (t : Lent x i c v w s) where
  next : (m : Memory) → Typed m → state.Kept (load_call i).state m → {j : List ℕ} → j ≡ image_of m → Next x m v w s j
  next m y k e =
      let r = state_back m y (kept_storable k (lent_storable t)) in
      let z : (load_call (image_of m)).state ≡ m = ap (λ (d : Loaded). d.state) r.1.1 in
      let u = world_of i v w s [] in
      let q : Ready x (world m v w s []) = stays_ready x u (in_state u m) t.ready (kept_stays u t.ready.holds m k) in
      subst (Next x m v w s) (sym e)
      (record {
        lent = record {
          bytes = r.1.0;
          number = ap (λ (d : Loaded). d.number) r.1.1;
          core = ap (λ (n : Memory). n.core) (sym z);
          ready = subst (λ (n : Memory). Ready x (world n v w s [])) (sym z) q;
        };
        same = z;
      })

  -- FF46
  module _ (value : ℕ) (h : value < 256) where
    page_next : {j : List ℕ} → j ≡ set i 0x146 value → Next x (stored (load_call i).state 0x46 value) v w s j
    page_next e =
        next (stored (load_call i).state 0x46 value) (stored_typed (load_call i).state (lent_typed t) (lent_storable t) 0x46 value h)
        (state.stored_kept (load_call i).state 0x46 value)
        (e ∙ ap (λ (n : List ℕ). set n 0x146 value) (sym (lent_image t))
        ∙ stored_image (load_call i).state (lent_typed t) (lent_storable t) 0x46 value (omega arith) h)

    pub page_own : {j : List ℕ} → j ≡ set i 0x146 value → Own x j v w s
    page_own e = own (page_next e).lent

    pub page_wrote : {j : List ℕ} → j ≡ set i 0x146 value → {j' v' : List ℕ} → ((n : ℕ) → Moved x j v w s (oam_copy value) n j' v')
        → Wrote x i v w s 0xFF46 value j' v'
    unfolding starting register_of byte_as copy_of
    page_wrote {j} e {j'} {v'} f l =
        let m = stored (load_call i).state 0x46 value in
        let W = world_of i v w s l in
        let z : world_of j v w s l ≡ in_state W m = ap (λ (n : Memory). world n v w s l) (page_next e).same in
        let q = write_transfer x W 2 0xFF46 value {k = oam_copy value} {n = m} {u = transferred x (write_at x 1) (oam_copy value) value (in_state W m)} refl refl refl refl in
        f value l ∙ ap left_by (ap (transferred x (write_at x 1) (oam_copy value) value) z ∙ q)

-- FF55

-- what was decided, by the fields of the state
pub decided : (h h' : Hdma) (mode mode' value : ℕ) {k : Start} → k ≡ starts h mode value → h ≡ h' → mode ≡ mode' → k ≡ starts h' mode' value
decided h h' mode mode' value e p q = e ∙ ap (λ (y : Hdma). starts y mode value) p ∙ ap (λ (y : ℕ). starts h' y value) q

-- HDMA that is switched keeps its addresses
abbrev Keeps : Hdma → Start → Type 0
Keeps h (start.Set a) = (a.hdma.source ≡ h.source) × (a.hdma.destination ≡ h.destination) × (a.byte < 256)
Keeps h (start.Block a) = (a.hdma.source ≡ h.source) × (a.hdma.destination ≡ h.destination) × (a.byte < 256)
Keeps h start.General = 0 < 1

starts_keep : (h : Hdma) (mode value : ℕ) {k : Start} → k ≡ starts h mode value → Keeps h k
starts_keep h mode value e =
    subst (Keeps h) (sym e)
    (by_start (Keeps h) h mode value (refl, refl, omega arith) (refl, refl, omega arith) (refl, refl, omega arith) (omega arith))

module _ (h : Hdma) (mode value : ℕ) {k : Start} (e : k ≡ starts h mode value) {b : Bool} (c : b ≡ true) (a : Written) where
  pub set_keeps : k ≡ start.Set a → Kept b h a
  set_keeps q =
      let p = subst (Keeps h) q (starts_keep h mode value e) in
      record { colour = c; source = p.0; destination = p.1; byte = p.2 }

  pub block_keeps : k ≡ start.Block a → Kept b h a
  block_keeps q =
      let p = subst (Keeps h) q (starts_keep h mode value e) in
      record { colour = c; source = p.0; destination = p.1; byte = p.2 }

transfer_kept : (m : Memory) (a : Written) → Kept m.core.banks.colour m.core.hdma a → state.Kept m (transfer_put m 0x55 a)
transfer_kept m a k =
    record {
      range = λ h.
          let f = hdma_parts m.core.hdma m.core.banks.colour (range_hdma m h) in
          transfer_range m h a.hdma (set m.page 0x55 a.byte)
          (parts_hdma a.hdma m.core.banks.colour
          (record { source = rw k.source f.source; destination = rw k.destination f.destination; allowed = rw k.colour }));
      colour = refl;
      cartridge = refl;
      mapper = refl;
      used = refl;
    }

same_block : (m : Memory) (a : Written) → Kept m.core.banks.colour m.core.hdma a → block_copy (transfer_put m 0x55 a) ≡ block_copy m
unfolding source_used destination_used
same_block m a k = rw (k.source, k.destination)

module _ {x : Fixed} {i : List ℕ} {c : Core} {v w s : List ℕ} (t : Lent x i c v w s) where
  abbrev m₀ : Memory
  m₀ = (load_call i).state

  module _ (a : Written) (k : Kept c.banks.colour c.hdma a) where
    k' : Kept m₀.core.banks.colour m₀.core.hdma a
    k' = subst (λ (d : Core). Kept d.banks.colour d.hdma a) t.core k

    below_source : a.hdma.source < 65536
    below_source = rw k'.source (hdma_words (lent_typed t)).0

    below_destination : a.hdma.destination < 65536
    below_destination = rw k'.destination (hdma_words (lent_typed t)).1

    abbrev put : List ℕ
    put = image_of (transfer_put m₀ 0x55 a)

    written_next : {j : List ℕ} → j ≡ put → Next x (transfer_put m₀ 0x55 a) v w s j
    written_next e =
        next t (transfer_put m₀ 0x55 a) (written_typed m₀ (lent_typed t) (lent_storable t) a below_source below_destination k'.byte) (transfer_kept m₀ a k') e

    pub written_storable : storable (transfer_put m₀ 0x55 a) ≡ true
    written_storable = kept_storable (transfer_kept m₀ a k') (lent_storable t)

    pub written_own : {j : List ℕ} → j ≡ put → Own x j v w s
    written_own e = own (written_next e).lent

    pub written_moved : {j j' v' : List ℕ} → j ≡ put → ((value : ℕ) → Moved x j v w s (block_copy (load_call j).state) value j' v')
        → (value : ℕ) → Moved x put v w s (block_copy m₀) value j' v'
    written_moved {j} {j'} {v'} e f value =
        let q : block_copy (load_call put).state ≡ block_copy m₀ = ap block_copy (written_next refl).same ∙ same_block m₀ a k' in
        subst (λ (n : Copy). Moved x put v w s n value j' v') q
        (subst (λ (n : List ℕ). Moved x n v w s (block_copy (load_call n).state) value j' v') e (f value))

  module _ (value : ℕ) where
    -- as `hdma` decides, in colour
    module _ (h : c.banks.colour ≡ true) {k : Start} (e : k ≡ starts c.hdma c.lcd.mode value) where
      started_by_law : started_by m₀ value k ≡ started m₀ value
      unfolding started
      started_by_law =
          let h' : m₀.core.banks.colour ≡ true = ap (λ (d : Core). d.banks.colour) (sym t.core) ∙ h in
          let e' : k ≡ starts m₀.core.hdma m₀.core.lcd.mode value = e ∙ ap (λ (d : Core). starts d.hdma d.lcd.mode value) t.core in
          ap (started_by m₀ value) e' ∙ sym (cond_true _ _ _ h')

      start_by : (l : List ℕ)
          → transferred x (write_at x 1) (started_by m₀ value k).copy value (in_state (world_of i v w s l) (started_by m₀ value k).memory)
          ≡ write_at x 2 (world_of i v w s l) 0xFF55 value
      unfolding starting register_of copy_of
      start_by l =
          write_transfer x (world_of i v w s l) 2 0xFF55 value {k = (started_by m₀ value k).copy} {n = (started_by m₀ value k).memory} refl
          (ap (λ (d : Started). d.memory) started_by_law) (ap (λ (d : Started). d.copy) started_by_law) refl

    module _ (h : c.banks.colour ≡ true) {k : Start} (e : k ≡ starts c.hdma c.lcd.mode value) where
      pub set_storable : {a : Written} → k ≡ start.Set a → storable (transfer_put m₀ 0x55 a) ≡ true
      set_storable {a} q = written_storable a (set_keeps c.hdma c.lcd.mode value e h a q)

      pub set_wrote : {a : Written} → k ≡ start.Set a → {j : List ℕ} → j ≡ image_of (transfer_put m₀ 0x55 a) → Wrote x i v w s 0xFF55 value j v
      unfolding copy_by finished
      set_wrote {a} q {j} f l = ap (λ (n : List ℕ). left 0 0 n v w s l) f ∙ ap left_by (start_by h (sym q ∙ e) l)

      pub block_wrote : {a : Written} → k ≡ start.Block a → {j' v' : List ℕ} → ((value : ℕ) → Moved x (image_of (transfer_put m₀ 0x55 a)) v w s (block_copy m₀) value j' v')
          → Wrote x i v w s 0xFF55 value j' v'
      block_wrote {a} q f l =
          let p = block_keeps c.hdma c.lcd.mode value e h a q in
          let z : world_of (image_of (transfer_put m₀ 0x55 a)) v w s l ≡ in_state (world_of i v w s l) (transfer_put m₀ 0x55 a) =
          ap (λ (n : Memory). world n v w s l) (written_next a p refl).same in
          f value l ∙ ap left_by (ap (transferred x (write_at x 1) (block_copy m₀) value) z ∙ start_by h (sym q ∙ e) l)

      pub general_wrote : k ≡ start.General → {j' v' : List ℕ} → Moved x i v w s (general_copy m₀ value) value j' v' → Wrote x i v w s 0xFF55 value j' v'
      general_wrote q f l = f l ∙ ap left_by (start_by h (sym q ∙ e) l)

    -- a monochrome machine just stores it
    pub plain_wrote : c.banks.colour ≡ false → value < 256 → {j : List ℕ} → j ≡ set i 0x155 value → Wrote x i v w s 0xFF55 value j v
    unfolding starting register_of copy_of started copy_by finished
    plain_wrote h b {j} f l =
        let h' : m₀.core.banks.colour ≡ false = ap (λ (d : Core). d.banks.colour) (sym t.core) ∙ h in
        let W = world_of i v w s l in
        let r : record { memory = stored m₀ 0x55 value; copy = nothing } ≡ started m₀ value = sym (cond_false _ _ _ h') in
        let g : j ≡ image_of (stored m₀ 0x55 value) =
        f ∙ ap (λ (n : List ℕ). set n 0x155 value) (sym (lent_image t)) ∙ stored_image m₀ (lent_typed t) (lent_storable t) 0x55 value (omega arith) b in
        ap (λ (n : List ℕ). left 0 0 n v w s l) g
        ∙ ap left_by
        (write_transfer x W 2 0xFF55 value {k = nothing} {n = stored m₀ 0x55 value} {u = transferred x (write_at x 1) nothing value (in_state W (stored m₀ 0x55 value))}
        refl (ap (λ (d : Started). d.memory) r) (ap (λ (d : Started). d.copy) r) refl)

pub wrote_at : (x : Fixed) (i v w s : List ℕ) (index k value : ℕ) (j v' : List ℕ) → index ≡ k → Wrote x i v w s k value j v' → Wrote x i v w s index value j v'
wrote_at x i v w s index k value j v' e f = subst (λ (n : ℕ). Wrote x i v w s n value j v') (sym e) f
