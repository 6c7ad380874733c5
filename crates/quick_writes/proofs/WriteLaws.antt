-- How a write answers, by what refuses it; and that a second write finds an image that is taken.
use mathlib.Core.Bool.{Bool, true, false, cond, ◌||◌}
use mathlib.Core.List.{List, []}
use mathlib.Core.Path.{◌≡◌, refl, sym, ap, subst, ◌∙◌}
use Prim.Native.Nat.{ℕ, ◌/◌, ◌%◌, ◌<◌, ◌≤◌}
use native.Mathlib.Omega.{arith}
use lib.Dec.{eqb, ltb}
use lib.ListN.{length}
use borrow.Author.Tests.{le-leb, eq-eqb, eqb-true, eqb-false, ne_eqb, le-ltb}
use Rattle.bus.specs.Calls.{outcome, unless}
use Rattle.dispatch.proofs.Open.{write_good}
use Rattle.dispatch.specs.Step.{step}
use Rattle.dispatch.specs.declared.Call.{Call}
use Rattle.dispatch.specs.declared.Call.TheVariants as call
use Rattle.entry.specs.Entry.{encoded_in, world_entry}
use Rattle.image.proofs.OpenLaws.{load_image}
use Rattle.image.specs.Layout.{used_field}
use Rattle.image.specs.Load.{at, load_call}
use Rattle.image.specs.Patches.{fields, MapperFits, RestFits}
use Rattle.in_place.proofs.Fine.{fine_typed}
use Rattle.memory.specs.World.{World, world, Fixed, fixed}
use Rattle.memory.specs.declared.Core.{Core}
use Rattle.mmu.proofs.Laws.{write_plain, write_stays, write_ready, read_ready}
use Rattle.mmu.specs.Access.{Ready, put}
use Rattle.mmu.specs.Write.{write_at, word_at}
use Rattle.move_bytes.specs.Transfers.{Own}
use Rattle.packing.specs.Packing.{Below}
use Rattle.put_bytes.proofs.PutLaws.{taken_core, taken_left, taken_whole}
use Rattle.put_bytes.proofs.Whole.{write_whole}
use Rattle.put_bytes.specs.Left.{Left, left, world_of, left_by}
use Rattle.put_bytes.specs.Puts.{Taken}
use Rattle.refusals.proofs.Answers.{both_pass}
use Rattle.refusals.specs.Refusal.{or_else, use_refused, lengths_refused, log_refused, refused_write, read_refused, refused_read, state_refused, in_sound, next_index, byte_room, word_room, byte_owed, word_owed}
use Rattle.rules.proofs.Tests.{by_cond, untrue}
use Rattle.savelog.specs.Log.{log_limit}
use Rattle.take_bytes.proofs.ByteLaws.{surely_loaded, surely_passes}
use Rattle.quick_writes.specs.Writes.{quick, LogFits}
use Rattle.quick_writes.proofs.EntryLaws.{zero_else, either_way, number_lent, lent}

-- It starts no transfer

quick_other : (i : ℕ) → quick i ≡ true → (i ≡ 0xFF46 → ⊥) × (i ≡ 0xFF55 → ⊥)
unfolding quick
quick_other i q =
    by_cond (λ (t : Bool). t ≡ true → (i ≡ 0xFF46 → ⊥) × (i ≡ 0xFF55 → ⊥)) (eqb i 0xFF46) false _
    (λ t e. let z : ◌≡◌ {A = ℕ} 0 1 = cc in absurd (omega arith))
    (λ f.
    by_cond (λ (t : Bool). t ≡ true → (i ≡ 0xFF46 → ⊥) × (i ≡ 0xFF55 → ⊥)) (eqb i 0xFF55) false true
    (λ t e. let z : ◌≡◌ {A = ℕ} 0 1 = cc in absurd (omega arith)) (λ g e. (eqb-false i 0xFF46 f, eqb-false i 0xFF55 g)))
    q

quick_plain : (x : Fixed) (w : World) (d index v : ℕ) → quick index ≡ true → write_at x d w index v ≡ put w index v
quick_plain x w d index v q = write_plain x w d index v (quick_other index q).0 (quick_other index q).1

-- How a write answers

module _ (x : Fixed) (i v w s l : List ℕ) (below : Below 256 i) (c : Call) (room k : ℕ) (u : World)
    (f : step x (world_of i v w s l) c ≡ unless (or_else (refused_write x (world_of i v w s l)) room) (world_of i v w s l) (outcome k 0 u)) where
  untaken : ((load_call i).number ≡ 0 → ⊥) → {n : ℕ} → n ≡ or_else (or_else (load_call i).number (refused_write x (world_of i v w s l))) room
      → left n 0 i v w s l ≡ world_entry x i v w s l c
  unfolding world_entry or_else
  untaken h e = rw (e, ne_eqb (load_call i).number 0 h, ne_eqb (load_call i).number 0 h)

  refused : (load_call i).number ≡ 0 → {n : ℕ} → n ≡ or_else (or_else (load_call i).number (refused_write x (world_of i v w s l))) room → (n ≡ 0 → ⊥)
      → left n 0 i v w s l ≡ world_entry x i v w s l c
  unfolding world_entry encoded_in unless
  refused z {n} e h =
      let d : n ≡ or_else (refused_write x (world_of i v w s l)) room = e ∙ rw z (ap (λ (a : ℕ). or_else a room) (zero_else (refused_write x (world_of i v w s l)))) in
      let g = load_image i z below in
      rw (z, f, ← d, ne_eqb n 0 h) (sym (either_way (ltb 1 n) (ap (λ (a : List ℕ). left n 0 a v w s l) (sym g)) ∙ ap (λ (a : List ℕ). left n 0 a v w s l) g))

  refused_by : (t : Bool) → eqb (load_call i).number 0 ≡ t → {n : ℕ} → n ≡ or_else (or_else (load_call i).number (refused_write x (world_of i v w s l))) room
      → (n ≡ 0 → ⊥) → left n 0 i v w s l ≡ world_entry x i v w s l c
  refused_by true q e h = refused (eqb-true (load_call i).number 0 q) e h
  refused_by false q e h =
      untaken (λ z. let y : true ≡ false = sym (eq-eqb (load_call i).number 0 z) ∙ q in let o : ◌≡◌ {A = ℕ} 0 1 = cc in absurd (omega arith)) e

  module _ {n : ℕ} (e : n ≡ or_else (or_else (load_call i).number (refused_write x (world_of i v w s l))) room) where
    write_refused : (n ≡ 0 → ⊥) → left n 0 i v w s l ≡ world_entry x i v w s l c
    write_refused h = refused_by (eqb (load_call i).number 0) refl e h

    write_done : n ≡ 0 → k ≤ 1 → {j v' w' s' l' : List ℕ} → left 0 0 j v' w' s' l' ≡ left_by u
        → left k 0 j v' w' s' l' ≡ world_entry x i v w s l c
    unfolding world_entry encoded_in unless or_else
    write_done z h g =
        let p = both_pass (or_else (load_call i).number (refused_write x (world_of i v w s l))) room (sym e ∙ z) in
        let q = both_pass (load_call i).number (refused_write x (world_of i v w s l)) p.0 in
        rw (q.0, f, q.1, p.1, le-ltb 1 k h) (ap (λ (a : Left). left k 0 a.image a.vram a.wram a.save a.log) g)

-- bytes and words

byte_call : (x : Fixed) (w : World) (index b : ℕ)
    → step x w (call.WriteByte index b)
    ≡ unless (or_else (refused_write x w) (byte_room w.state.core.used (length w.log) index)) w (outcome (byte_owed index) 0 (write_at x 2 w index b))
unfolding step
byte_call x w index b = refl

-- quick, or by the transfer that it starts
pub put_quick : (rom sound : List ℕ) (w : World) (index b : ℕ) {t : Bool} {u : Left} → t ≡ quick index → t ≡ true → u ≡ left_by (put w index b)
    → u ≡ left_by (write_at (fixed rom sound) 2 w index b)
put_quick rom sound w index b e h g = g ∙ ap left_by (sym (quick_plain (fixed rom sound) w 2 index b (sym e ∙ h)))

starts_by : (a b : Bool) → cond a false (cond b false true) ≡ false → (a ≡ true → ⊥) → b ≡ true
starts_by true b e h = absurd (h refl)
starts_by false true e h = refl
starts_by false false e h = untrue (sym e)

pub starts_either : (index : ℕ) {t : Bool} → t ≡ quick index → t ≡ false → (index ≡ 0xFF46 → ⊥) → index ≡ 0xFF55
unfolding quick
starts_either index e h n =
    eqb-true index 0xFF55 (starts_by (eqb index 0xFF46) (eqb index 0xFF55) (sym e ∙ h) (λ t. n (eqb-true index 0xFF46 t)))

byte_owed_law : (index : ℕ) → byte_owed index ≤ 1
unfolding byte_owed
byte_owed_law index = by_cond (λ (n : ℕ). n ≤ 1) (in_sound index) 1 0 (λ t. omega arith) (λ f. omega arith)

word_call : (x : Fixed) (w : World) (index b : ℕ)
    → step x w (call.WriteWord index b)
    ≡ unless (or_else (refused_write x w) (word_room w.state.core.used (length w.log) index)) w (outcome (word_owed index) 0 (word_at x w index b))
unfolding step
word_call x w index b = refl

pub put_both_quick : (rom sound : List ℕ) (w : World) (index b : ℕ) → (quick index ≡ true) × (quick (next_index index) ≡ true) → {u : Left}
    → u ≡ left_by (put (put w index (b % 256)) (next_index index) (b / 256)) → u ≡ left_by (word_at (fixed rom sound) w index b)
unfolding word_at
put_both_quick rom sound w index b q g =
    g
    ∙ sym (rw (quick_plain (fixed rom sound) w 2 index (b % 256) q.0, quick_plain (fixed rom sound) (put w index (b % 256)) 2 (next_index index) (b / 256) q.1))

word_owed_law : (index : ℕ) → word_owed index ≤ 1
unfolding word_owed
word_owed_law index = by_cond (λ (n : ℕ). n ≤ 1) (in_sound index || in_sound (next_index index)) 1 0 (λ t. omega arith) (λ f. omega arith)

-- the number that the code finds: the image's and the lengths', then the log's
module _ (rom sound i v w s l : List ℕ) (below : Below 256 i) {o : ℕ}
    (p : o ≡ or_else (load_call i).number (refused_write (fixed rom sound) (world_of i v w s l))) where
  closed : (o ≡ 0 → ⊥) → (a : ℕ) → o ≡ or_else o a
  unfolding or_else
  closed h a = rw (ne_eqb o 0 h)

  numbered : (room : ℕ) {n : ℕ} → n ≡ or_else o room → n ≡ or_else (or_else (load_call i).number (refused_write (fixed rom sound) (world_of i v w s l))) room
  numbered room e = e ∙ ap (λ (a : ℕ). or_else a room) p

  module _ (z : o ≡ 0) where
    passed : (a : ℕ) → a ≡ or_else o a
    passed a = sym (ap (λ (x : ℕ). or_else x a) z ∙ zero_else a)

    both : ((load_call i).number ≡ 0) × (refused_write (fixed rom sound) (world_of i v w s l) ≡ 0)
    both = both_pass (load_call i).number (refused_write (fixed rom sound) (world_of i v w s l)) (sym p ∙ z)

    pub write_taken : Taken i v w s l
    write_taken =
        record {
          bytes = below;
          number = both.0;
          holds = (write_good (fixed rom sound) (world_of i v w s l) both.1).holds;
          used = (write_good (fixed rom sound) (world_of i v w s l) both.1).used;
        }

    used_is : {u : ℕ} → u ≡ at (fields i) used_field → u ≡ (load_call i).state.core.used
    used_is f = f ∙ ap (λ (c : Core). c.used) (taken_core write_taken)

    pub write_lent_to : Own (fixed rom sound) i v w s
    write_lent_to = lent rom sound i v w s l below p z

  module _ (index b : ℕ) where
    abbrev byte_asked : ℕ
    byte_asked = byte_room (load_call i).state.core.used (length l) index

    pub byte_closed : (o ≡ 0 → ⊥) → left o 0 i v w s l ≡ world_entry (fixed rom sound) i v w s l (call.WriteByte index b)
    byte_closed h =
        write_refused (fixed rom sound) i v w s l below (call.WriteByte index b) byte_asked (byte_owed index) (write_at (fixed rom sound) 2 (world_of i v w s l) index b)
        (byte_call (fixed rom sound) (world_of i v w s l) index b) (numbered byte_asked (closed h byte_asked)) h

    module _ (z : o ≡ 0) {u r : ℕ} (f : u ≡ at (fields i) used_field) (y : r ≡ byte_room u (length l) index) where
      byte_number : r ≡ or_else (or_else (load_call i).number (refused_write (fixed rom sound) (world_of i v w s l))) byte_asked
      byte_number =
          let e : r ≡ byte_asked = y ∙ ap (λ (a : ℕ). byte_room a (length l) index) (used_is z f) in
          e ∙ numbered byte_asked (passed z byte_asked)

      pub byte_refused : (r ≡ 0 → ⊥) → left r 0 i v w s l ≡ world_entry (fixed rom sound) i v w s l (call.WriteByte index b)
      byte_refused =
          write_refused (fixed rom sound) i v w s l below (call.WriteByte index b) byte_asked (byte_owed index) (write_at (fixed rom sound) 2 (world_of i v w s l) index b)
          (byte_call (fixed rom sound) (world_of i v w s l) index b) byte_number

      pub byte_done : r ≡ 0 → {k : ℕ} → k ≡ byte_owed index → {j v' w' s' l' : List ℕ} → left 0 0 j v' w' s' l' ≡ left_by (write_at (fixed rom sound) 2 (world_of i v w s l) index b)
          → left k 0 j v' w' s' l' ≡ world_entry (fixed rom sound) i v w s l (call.WriteByte index b)
      byte_done t d g =
          rw d
          (write_done (fixed rom sound) i v w s l below (call.WriteByte index b) byte_asked (byte_owed index) (write_at (fixed rom sound) 2 (world_of i v w s l) index b)
          (byte_call (fixed rom sound) (world_of i v w s l) index b) byte_number t (byte_owed_law index) g)

  module _ (index b : ℕ) where
    abbrev word_asked : ℕ
    word_asked = word_room (load_call i).state.core.used (length l) index

    abbrev word_put : World
    word_put = word_at (fixed rom sound) (world_of i v w s l) index b

    pub word_closed : (o ≡ 0 → ⊥) → left o 0 i v w s l ≡ world_entry (fixed rom sound) i v w s l (call.WriteWord index b)
    word_closed h =
        write_refused (fixed rom sound) i v w s l below (call.WriteWord index b) word_asked (word_owed index) word_put
        (word_call (fixed rom sound) (world_of i v w s l) index b) (numbered word_asked (closed h word_asked)) h

    module _ (z : o ≡ 0) {u r : ℕ} (f : u ≡ at (fields i) used_field) (y : r ≡ word_room u (length l) index) where
      word_number : r ≡ or_else (or_else (load_call i).number (refused_write (fixed rom sound) (world_of i v w s l))) word_asked
      word_number =
          let e : r ≡ word_asked = y ∙ ap (λ (a : ℕ). word_room a (length l) index) (used_is z f) in
          e ∙ numbered word_asked (passed z word_asked)

      pub word_refused : (r ≡ 0 → ⊥) → left r 0 i v w s l ≡ world_entry (fixed rom sound) i v w s l (call.WriteWord index b)
      word_refused =
          write_refused (fixed rom sound) i v w s l below (call.WriteWord index b) word_asked (word_owed index) word_put
          (word_call (fixed rom sound) (world_of i v w s l) index b) word_number

      pub word_done : r ≡ 0 → {k : ℕ} → k ≡ word_owed index → {j v' w' s' l' : List ℕ} → left 0 0 j v' w' s' l' ≡ left_by word_put
          → left k 0 j v' w' s' l' ≡ world_entry (fixed rom sound) i v w s l (call.WriteWord index b)
      word_done t d g =
          rw d
          (write_done (fixed rom sound) i v w s l below (call.WriteWord index b) word_asked (word_owed index) word_put
          (word_call (fixed rom sound) (world_of i v w s l) index b) word_number t (word_owed_law index) g)

-- the next write finds an image that is taken, whatever the first started
module _ (x : Fixed) (rom : Below 256 x.rom) (sound : Below 256 x.sound) {i v w s l : List ℕ} (t : Taken i v w s l) (o : Own x i v w s) where
  taken_ready : Ready x (world_of i v w s l)
  taken_ready = record { holds = t.holds; rom = o.ready.rom; sound = o.ready.sound }

  pub taken_write : Below 256 v → Below 256 w → Below 256 s → (index b : ℕ) → b < 256 → {j v' w' s' l' : List ℕ}
      → left 0 0 j v' w' s' l' ≡ left_by (write_at x 2 (world_of i v w s l) index b)
      → (Taken j v' w' s' l' × Own x j v' w' s') × (world_of j v' w' s' l' ≡ write_at x 2 (world_of i v w s l) index b)
  taken_write bv bw bs index b h e =
      let W = world_of i v w s l in
      let u = write_at x 2 W index b in
      let f = (write_whole x rom sound 2 W (taken_whole t bv bw bs) index b h).state in
      let r = taken_left t u (write_stays x W t.holds 2 index b) (fine_typed u.state f) e in
      let y = read_ready x u (write_ready x 2 W taken_ready index b) in (
        (
          r.0,
          record {
            bytes = r.0.bytes;
            number = r.0.number;
            core = refl;
            ready = subst (λ (a : World). Ready x (world a.state a.vram a.wram a.save [])) (sym r.1) y;
          },
        ),
        r.1,
      )

-- the tests that are enough
module _ (rom sound i v w s l : List ℕ) (below : Below 256 i) (p : MapperFits i (length rom) (length s)) (q : RestFits i (length v) (length w))
    (r : LogFits i (length sound) (length l)) where
  lengths_pass : lengths_refused (load_call i).state.core (length rom) (length v) (length w) (length s) (length sound) ≡ 0
  unfolding read_refused
  lengths_pass =
      let a = both_pass (load_call i).number (refused_read (fixed rom sound) (world (load_call i).state v w s [])) (sym (surely_passes (fixed rom sound) i v w s below p q r.sound)) in
      (both_pass (state_refused (load_call i).state log_limit) (lengths_refused (load_call i).state.core (length rom) (length v) (length w) (length s) (length sound)) a.1).1

  use_passes : use_refused (at (fields i) used_field) (length l) ≡ 0
  unfolding use_refused
  use_passes = rw r.used

  log_passes : log_refused (length l) ≡ 0
  unfolding log_refused
  log_passes = rw (le-leb (length l) log_limit r.log)

  pub surely_writes : 0 ≡ or_else (load_call i).number (refused_write (fixed rom sound) (world_of i v w s l))
  surely_writes =
      number_lent i (sym (surely_loaded (fixed rom sound) i v w s below p q r.sound)) (length rom) (length v) (length w) (length s) (length sound) (length l) refl below refl
      (sym use_passes) (sym lengths_pass) (sym log_passes) (sym (zero_else 0)) (sym (zero_else 0))
