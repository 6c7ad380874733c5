-- The promises over every list of calls: on a bus that can go on, and so on a fresh one.
use mathlib.Core.Bool.{Bool, true, false, cond}
use mathlib.Core.List.{List, [], ◌++◌}
use mathlib.Core.Path.{◌≡◌, refl, ap, sym, subst, ◌∙◌}
use Prim.Native.Nat.{ℕ, ◌-◌, ◌/◌}
use native.Mathlib.Omega.{arith}
use lib.ListN.{length, take}
use Rattle.bus.specs.Fresh.{Begun}
use Rattle.dispatch.proofs.Starts.{Started, started, by_begun}
use Rattle.mbc.specs.Mbc.{cartridge_of, ram_len}
use Rattle.mbc.specs.declared.cartridge.Cartridge.{Cartridge}
use Rattle.memory.specs.Start.{started as startedWith}
use Rattle.memory.specs.World.{World}
use Rattle.numbers.specs.Numbers.{done, wrong_length, damaged}
use Rattle.savelog.proofs.Laws.{save_within, records_none}
use Rattle.savelog.proofs.Prefix as savelog
use Rattle.savelog.specs.Laws.{Copies, none, more}
use Rattle.savelog.specs.Log.{
  Outcome,
  outcome,
  width,
  records,
  all_sound,
  apply_all,
  save_lengths,
  one_of,
  lengths_fit,
  recovery,
  recover_all,
  joined,
  cut_copies,
}
use Rattle.savelog.specs.declared.Form.TheVariants.{Four}
use Rattle.savelog.specs.declared.Rec.{Rec}
use Rattle.promise.specs.Bus.{Lent, start, begin}
use Rattle.promise.specs.Admitted.{records_of}
use Rattle.promise.specs.Gate.{Terms, Gate, admitted_by}
use Rattle.promise.specs.Promise.{Typed, Recovers, Told, Ruled, Promise, Resumed}
use Rattle.promise.specs.Runs.{
  Turn,
  AllLend,
  calls,
  run,
  after,
  asked_all,
  terms,
  opening,
  admitted,
  terms_of,
  gate_of,
  admitted_from,
  Able,
  used_bytes,
  copies_from,
  copies,
}
use Rattle.promise.proofs.Cuts.{Fit, fit_sound, fit_read, admitted_fit, ram_taken, used_whole, copies_whole, copies_sound}
use Rattle.promise.proofs.Runs.{run_save, run_log, run_ruled}
use Rattle.promise.proofs.Steps.{good_able}
use Rattle.promise.proofs.Turns.{terms_same, gate_same}

-- copies that are sound recover, however they are cut
recovers_cut : {ram : ℕ} {ls : List (List ℕ)} → Copies ram ls → (s : List ℕ) (n : ℕ) → length s ≡ ram → one_of ram save_lengths ≡ true
    → Recovers s (cut_copies n ls)
unfolding cut_copies
recovers_cut none s n m e = tt
recovers_cut (more {c} {cs} h hs) s n m e =
    let z = ap (λ (o : Outcome). o.number) (savelog.recovery_done s c (rw m e) h.short (rw m h.sound)) in
    let d = savelog.prefix s c n z in
    let t = apply_all s (take (n / width) (records c)) in
    let r = recovers_cut hs t (n - length c) (savelog.length_apply_all s (take (n / width) (records c)) ∙ m) e in (
      ap (λ (o : Outcome). o.number) d,
      subst (λ (b : List ℕ). Recovers b (cut_copies (n - length c) cs)) (sym (ap (λ (o : Outcome). o.save) d)) r,
    )

-- and whole they give all their records
recover_whole : {ram : ℕ} {ls : List (List ℕ)} → Copies ram ls → (s : List ℕ) → length s ≡ ram → one_of ram save_lengths ≡ true
    → recover_all s ls ≡ apply_all s (records (joined ls))
unfolding recover_all joined apply_all
recover_whole none s m e = sym (ap (λ (rs : List Rec). apply_all s rs) (records_none Four [] (omega arith)))
recover_whole (more {c} {cs} h hs) s m e =
    let d = savelog.recovery_done s c (rw m e) h.short (rw m h.sound) in
    ap (λ (o : Outcome). recover_all o.save cs) d
    ∙ recover_whole hs (apply_all s (records c)) (savelog.length_apply_all s (records c) ∙ m) e
    ∙ sym (savelog.apply_all_append s (records c) (records (joined cs)))
    ∙ ap (λ (rs : List Rec). apply_all s rs) (sym (savelog.records_append Four c (joined cs) h.whole))

-- what gave 0 was sound, and is what its records give
taken : (a b : Bool) (s t u : List ℕ) {save : List ℕ}
    → cond a (cond b (outcome done s) (outcome damaged t)) (outcome wrong_length u) ≡ outcome done save → (b ≡ true) × (s ≡ save)
taken true true s t u h = (refl, ap (λ (o : Outcome). o.save) h)
taken true false s t u h = let z : ◌≡◌ {A = ℕ} 6 0 = ap (λ (o : Outcome). o.number) h in absurd (omega arith)
taken false b s t u h = let z : ◌≡◌ {A = ℕ} 4 0 = ap (λ (o : Outcome). o.number) h in absurd (omega arith)

recovered : (image l save : List ℕ) → recovery image l ≡ outcome done save
    → (all_sound (length image) (records l) ≡ true) × (apply_all image (records l) ≡ save)
unfolding recovery
recovered image l save e =
    taken (lengths_fit (length image) (length l)) (all_sound (length image) (records l)) (apply_all image (records l)) image image e

-- On a bus that can go on

module _ (w : World) (a : Able w) (ts : List Turn) (h : AllLend (terms_of w).ram ts) where
  abbrev entered : List Rec
  entered = admitted_from w ts

  saves : one_of (terms_of w).ram save_lengths ≡ true
  saves = ram_taken w.state.core.cartridge w.state.core.mapper

  module _ (t : Typed (calls ts)) where
    fit : Fit (terms_of w).ram entered
    fit = admitted_fit (terms_of w) (gate_of w) ts t

    run_names : records (joined (copies_from w ts)) ≡ records (used_bytes w) ++ entered
    run_names =
        ap (λ (l : List ℕ). records l) (run_log w ts a h)
        ∙ savelog.records_append Four (used_bytes w) (records_of entered) (used_whole w a).0
        ∙ ap (λ (rs : List Rec). records (used_bytes w) ++ rs) (fit_read (terms_of w).ram (save_within (terms_of w).ram saves) entered fit)

    -- over an older image, which what the log held made the save
    module _ (image : List ℕ) (e : recovery image (used_bytes w) ≡ outcome done w.save) where
      before : (all_sound (length image) (records (used_bytes w)) ≡ true) × (apply_all image (records (used_bytes w)) ≡ w.save)
      before = recovered image (used_bytes w) w.save e

      image_length : length image ≡ (terms_of w).ram
      image_length = sym (savelog.length_apply_all image (records (used_bytes w))) ∙ ap (λ (s : List ℕ). length s) before.1 ∙ a.save

      image_taken : one_of (length image) save_lengths ≡ true
      image_taken = ap (λ (n : ℕ). one_of n save_lengths) image_length ∙ saves

      older_copies : Copies (length image) (copies_from w ts)
      older_copies =
          let s : all_sound (length image) entered ≡ true =
          ap (λ (n : ℕ). all_sound n entered) image_length ∙ fit_sound (terms_of w).ram entered fit in
          copies_sound (length image) (copies_from w ts) (copies_whole w ts a h)
          (ap (λ (rs : List Rec). all_sound (length image) rs) run_names
          ∙ savelog.all_sound_append (length image) (records (used_bytes w)) entered before.0 s)

      older_cut : (n : ℕ) → recover_all image (cut_copies n (copies_from w ts)) ≡ apply_all image (take (n / width) (records (used_bytes w) ++ entered))
      older_cut n =
          (savelog.copies image (copies_from w ts) n image_taken older_copies).1
          ∙ ap (λ (rs : List Rec). apply_all image (take (n / width) rs)) run_names

      older_recovers : (n : ℕ) → Recovers image (cut_copies n (copies_from w ts))
      older_recovers n = recovers_cut older_copies image n refl image_taken

      older_whole : recover_all image (copies_from w ts) ≡ (run w ts).save
      older_whole =
          recover_whole older_copies image refl image_taken
          ∙ ap (λ (rs : List Rec). apply_all image rs) run_names
          ∙ savelog.apply_all_append image (records (used_bytes w)) entered
          ∙ ap (λ (s : List ℕ). apply_all s entered) before.1
          ∙ sym (run_save w ts a h)

  -- an unused log: the image is the save itself
  module _ (unused : w.state.core.used ≡ 0) where
    no_bytes : used_bytes w ≡ []
    no_bytes = ap (λ (u : ℕ). take u w.log) unused

    no_records : records (used_bytes w) ≡ []
    no_records = ap (λ (l : List ℕ). records l) no_bytes ∙ records_none Four [] (omega arith)

    itself : recovery w.save (used_bytes w) ≡ outcome done w.save
    unfolding apply_all all_sound
    itself =
        savelog.recovery_done w.save (used_bytes w) (ap (λ (n : ℕ). one_of n save_lengths) a.save ∙ saves) (used_whole w a).1
        (ap (λ (rs : List Rec). all_sound (length w.save) rs) no_records)
        ∙ ap (λ (rs : List Rec). outcome done (apply_all w.save rs)) no_records

    pub run_told : Told w.save (run w ts).save (copies_from w ts) (calls ts) (admitted_from w ts)
    run_told =
        record {
          save = run_save w ts a h;
          log = run_log w ts a h ∙ ap (λ (l : List ℕ). l ++ records_of entered) no_bytes;
          names = λ t. run_names t ∙ ap (λ (rs : List Rec). rs ++ entered) no_records;
          first = λ n. savelog.joined_cut n (copies_from w ts);
          cut = λ t n. older_cut t w.save itself n ∙ ap (λ (rs : List Rec). apply_all w.save (take (n / width) (rs ++ entered))) no_records;
          recovers = λ t n. older_recovers t w.save itself n;
        }

pub resumed : Resumed
resumed w ts a h =
    record {
      save = run_save w ts a h;
      log = run_log w ts a h;
      ruled = run_ruled w ts a h;
      older = λ image e t. (older_whole w a ts h t image e, older_cut w a ts h t image e, older_recovers w a ts h t image e);
      unused = λ u. run_told w a ts h u;
    }

-- So from a fresh bus, whose terms are those of the description

colour_begun : (l : Lent) → (start l).number ≡ done → (begin l).state.core.banks.colour ≡ l.colour
unfolding startedWith
colour_begun l z = by_begun (λ (b : Begun). b.state.core.banks.colour ≡ l.colour) _ _ _ _ z (λ e. refl)

terms_begun : (l : Lent) → (start l).number ≡ done → Started l (start l) → terms_of (begin l) ≡ terms l
terms_begun l z s =
    terms_same (terms_of (begin l)) (terms l) s.cartridge (colour_begun l z)
    (ap (λ (c : Cartridge). ram_len c (begin l).state.core.mapper) s.cartridge ∙ ap (ram_len (cartridge_of l.banks l.code)) s.mapper)
    refl

gate_begun : (l : Lent) → Started l (start l) → gate_of (begin l) ≡ opening l
gate_begun l s = gate_same (gate_of (begin l)) (opening l) s.mapper s.unused

pub promise : Promise
promise l ts z k =
    let s = started l z in
    let a = good_able (begin l) s.good in
    let d = terms_begun l z s in
    let g = gate_begun l s in
    let h = subst (λ (e : Terms). AllLend e.ram ts) (sym d) k in
    let e : admitted_from (begin l) ts ≡ admitted l ts =
    ap (λ (e : Terms). admitted_by e (gate_of (begin l)) (asked_all e ts)) d ∙ ap (λ (o : Gate). admitted_by (terms l) o (asked_all (terms l) ts)) g in
    let t = subst (λ (rs : List Rec). Told l.image (after l ts).save (copies l ts) (calls ts) rs) e (run_told (begin l) a ts h s.unused) in
    let r : Ruled (begin l) (terms l) (opening l) ts =
    subst (λ (o : Gate). Ruled (begin l) (terms l) o ts) g
    (subst (λ (e : Terms). Ruled (begin l) e (gate_of (begin l)) ts) d (run_ruled (begin l) ts a h)) in
    record {
      told = t;
      ruled = r;
    }
