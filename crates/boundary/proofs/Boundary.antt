-- Entries over lists, by induction; and from the fresh entry, or any image that is taken, the promise.
use mathlib.Core.Bool.{true}
use mathlib.Core.List.{List, [], ◌∷◌, ◌++◌}
use mathlib.Core.Path.{◌≡◌, refl, ap, sym, subst, ◌∙◌}
use Prim.Native.Nat.{ℕ, ◌-◌, ◌/◌, ◌%◌, ◌≤◌}
use native.Mathlib.Omega.{arith}
use lib.ListN.{length, take}
use lib.Seq.{take_at}
use borrow.Author.Tests.{ne_eqb}
use Rattle.dispatch.specs.Kinds.{kind_of}
use Rattle.dispatch.specs.Lent.{Lent, start, begin}
use Rattle.dispatch.specs.Step.{step}
use Rattle.dispatch.specs.declared.Call.{Call}
use Rattle.dispatch.specs.declared.Call.TheVariants as call
use Rattle.entry.proofs.Laws.{step_storable, fresh_storable}
use Rattle.entry.specs.Entry.{Given, given, used_entry, Left, left_in, fresh_entry}
use Rattle.image.proofs.LoadedPatches.{loaded_typed}
use Rattle.image.proofs.Round.{state_back, image_back}
use Rattle.image.proofs.StateLaws.{storable_state}
use Rattle.image.specs.Layout.{image_len, image_of}
use Rattle.image.specs.Load.{storable, loaded, load_call}
use Rattle.image.specs.Load.{Loaded}
use Rattle.memory.specs.Ranges.{state_in_range, in_range}
use Rattle.memory.specs.World.{World}
use Rattle.numbers.specs.Numbers.{done, out_of_range}
use Rattle.packing.specs.Packing.{Below}
use Rattle.promise.proofs.Begins.{begins}
use Rattle.promise.proofs.Promise.{promise, resumed}
use Rattle.promise.specs.Admitted.{records_of}
use Rattle.promise.specs.Calls.{writes_of}
use Rattle.promise.specs.Gate.{Terms, Gate}
use Rattle.promise.specs.Promise.{Bytes, Typed, Recovers, Told, free, Refuses, Without, Ruled, Judged}
use Rattle.promise.specs.Runs.{
  Lending,
  Own,
  Another,
  lent_of,
  keeps,
  Turn,
  Lends,
  AllLend,
  calls,
  lent_to,
  made,
  run,
  numbers,
  of_writes,
  ram_of,
  terms,
  opening,
  terms_of,
  gate_of,
  admitted_from,
  Able,
  used_bytes,
  copied_before,
  copies_from,
}
use Rattle.put_bytes.proofs.Storable.{parts}
use Rattle.put_bytes.proofs.Whole.{Whole}
use Rattle.savelog.proofs.Use.{use_parts, use_joins}
use Rattle.savelog.specs.Log.{width, log_limit, records, apply_all, use_in_range, recover_all, joined, cut_copies}
use Rattle.savelog.specs.declared.Rec.{Rec}
use Rattle.boundary.specs.Boundary.{
  Alike,
  EntryRuns,
  EntryRuled,
  EntryKept,
  EntryPromise,
  EntryBegins,
  Holding,
  EntryResumed,
}
use Rattle.boundary.specs.Held.{
  Held,
  held,
  entered,
  does_go_on,
  next,
  entry_run,
  entry_answers,
  answers,
  numbers_of,
  used_in,
  used_of,
  free_in,
  entry_copies,
  bus_in,
}
use Rattle.boundary.specs.Types.{CallTyped, LendingTyped, TurnTyped, TurnsTyped}
use Rattle.boundary.proofs.Bytes.{step_whole}
use Rattle.boundary.proofs.Entries.{entry_step}
use Rattle.boundary.proofs.Fresh.{begun_fine, fresh_number, fresh_done}
use Rattle.in_place.proofs.Fine.{Fine, typed_fine, fine_typed}

-- a state whose image gives it back, over a save of bytes; video and work memory come with each call
record Sound (w : World) : Type 0 where
  state : Fine w.state
  save : Below 256 w.save
  stores : storable w.state ≡ true

loads : (w : World) → Sound w → load_call (image_of w.state) ≡ loaded done w.state
loads w s = (state_back w.state (fine_typed w.state s.state) s.stores).1.1

lent_bytes : (k : Lending) (own : List ℕ) → LendingTyped k → Below 256 own → Below 256 (lent_of k own)
lent_bytes Own own t h = h
lent_bytes (Another l) own t h = t

kept_bytes : (k : Lending) (own left : List ℕ) → Below 256 own → Below 256 left → Below 256 (keeps k own left)
kept_bytes Own own left h g = g
kept_bytes (Another l) own left h g = h

sound_after : (w : World) → Sound w → (t : Turn) → TurnTyped t → Sound (made w t).after
sound_after w s t h =
    let g : Whole (lent_to w t) =
    record { state = s.state; vram = h.vram; wram = h.wram; save = lent_bytes t.save w.save h.save s.save } in
    let u = step_whole t.read h.rom h.sound (lent_to w t) g t.call h.call in
    record {
      state = u.state;
      save = kept_bytes t.save w.save _ s.save u.save;
      stores = step_storable t.read (lent_to w t) s.stores t.call;
    }

run_sound : (w : World) (ts : List Turn) → Sound w → TurnsTyped ts → Sound (run w ts)
unfolding run
run_sound w [] s h = s
run_sound w (t ∷ ts) s h = run_sound (made w t).after ts (sound_after w s t h.0) h.1

-- the copies
used_same : (w : World) → Sound w → used_of (held w) ≡ used_bytes w
used_same w s = ap (λ (l : Loaded). take l.state.core.used w.log) (loads w s)

-- an entry on a state's image is the call on the state
entered_made : (w : World) → Sound w → (t : Turn)
    → entered (held w) t
    ≡ left_in (step t.read (lent_to w t) t.call).number (step t.read (lent_to w t) t.call).value
    (image_of (step t.read (lent_to w t) t.call).after.state) (step t.read (lent_to w t) t.call).after
entered_made w s t = entry_step t.read (lent_to w t) (loads w s) t.call

next_same : (w : World) → Sound w → (t : Turn) → next (held w) t ≡ held (made w t).after
next_same w s t = ap (λ (l : Left). does_go_on (held w) t l) (entered_made w s t)

number_same : (w : World) → Sound w → (t : Turn) → (entered (held w) t).number ≡ (made w t).number
number_same w s t = ap (λ (l : Left). l.number) (entered_made w s t)

value_same : (w : World) → Sound w → (t : Turn) → (entered (held w) t).value ≡ (made w t).value
value_same w s t = ap (λ (l : Left). l.value) (entered_made w s t)

alike : (w : World) (ts : List Turn) → Sound w → TurnsTyped ts → Alike w ts
unfolding entry_run run entry_answers answers entry_copies copies_from
alike w [] s h = record { same_held = refl; same_answers = refl; same_copies = ap (λ (l : List ℕ). l ∷ []) (used_same w s) }
alike w (t ∷ ts) s h =
    let u = (made w t).after in
    let e = next_same w s t in
    let n = number_same w s t in
    let r = alike u ts (sound_after w s t h.0) h.1 in
    record {
      same_held = ap (λ (k : Held). entry_run k ts) e ∙ r.same_held;
      same_answers =
          ap (λ (k : Held). given (entered (held w) t).number (entered (held w) t).value ∷ entry_answers k ts) e
          ∙ ap (λ (m : ℕ). given m (entered (held w) t).value ∷ entry_answers (held u) ts) n
          ∙ ap (λ (v : ℕ). given (made w t).number v ∷ entry_answers (held u) ts) (value_same w s t)
          ∙ ap (λ (gs : List Given). given (made w t).number (made w t).value ∷ gs) r.same_answers;
      same_copies =
          ap (λ (k : Held). copied_before (kind_of t.call) (entered (held w) t).number (used_of (held w)) ++ entry_copies k ts) e
          ∙ ap (λ (m : ℕ). copied_before (kind_of t.call) m (used_of (held w)) ++ entry_copies (held u) ts) n
          ∙ ap (λ (l : List ℕ). copied_before (kind_of t.call) (made w t).number l ++ entry_copies (held u) ts) (used_same w s)
          ∙ ap (λ (ls : List (List ℕ)). copied_before (kind_of t.call) (made w t).number (used_bytes w) ++ ls) r.same_copies;
    }

pub entry_runs : EntryRuns
entry_runs w ts t h ys =
    alike w ts (record { state = typed_fine w.state t.state (storable_state w.state h); save = t.save; stores = h }) ys

numbers_same : (w : World) (ts : List Turn) → numbers_of (answers w ts) ≡ numbers w ts
unfolding answers numbers
numbers_same w [] = refl
numbers_same w (t ∷ ts) = ap (λ (ns : List ℕ). (made w t).number ∷ ns) (numbers_same (made w t).after ts)

typed_append : (ts later : List Turn) → TurnsTyped ts → TurnsTyped later → TurnsTyped (ts ++ later)
typed_append [] later h k = k
typed_append (t ∷ ts) later h k = (h.0, typed_append ts later h.1 k)

-- What holds of the bus holds of what the host has in its hands

module _ (w : World) (s : Sound w) (ts : List Turn) (h : TurnsTyped ts) where
  same : Alike w ts
  same = alike w ts s h

  end_sound : Sound (run w ts)
  end_sound = run_sound w ts s h

  end_loads : load_call (image_of (run w ts).state) ≡ loaded done (run w ts).state
  end_loads = loads (run w ts) end_sound

  numbers_alike : numbers_of (entry_answers (held w) ts) ≡ numbers w ts
  numbers_alike = ap numbers_of same.same_answers ∙ numbers_same w ts

  told_held : {image : List ℕ} {rs : List Rec} → Told image (run w ts).save (copies_from w ts) (calls ts) rs
      → Told image (entry_run (held w) ts).save (entry_copies (held w) ts) (calls ts) rs
  told_held {image} {rs} t =
      subst (λ (cs : List (List ℕ)). Told image (entry_run (held w) ts).save cs (calls ts) rs) (sym same.same_copies)
      (subst (λ (k : Held). Told image k.save (copies_from w ts) (calls ts) rs) (sym same.same_held) t)

  module _ (d : Terms) (g : Gate) (r : Ruled w d g ts) where
    abbrev May : Turn → Type 0
    May t = Lends d.ram t × TurnTyped t

    end_next : Refuses d (free (run w ts)) May (λ (t : Turn). (entered (held (run w ts)) t).number)
    end_next =
        record {
          bytes = λ t m i v e. number_same (run w ts) end_sound t ∙ r.next.bytes t m.0 i v e;
          words = λ t m i v e. number_same (run w ts) end_sound t ∙ r.next.words t m.0 i v e;
          clears = λ t m e. number_same (run w ts) end_sound t ∙ r.next.clears t m.0 e;
          range = λ t m e. r.next.range t m.0 (sym (number_same (run w ts) end_sound t) ∙ e);
        }

    used_end : used_in (held (run w ts)) ≡ (run w ts).state.core.used
    used_end = ap (λ (l : Loaded). l.state.core.used) end_loads

    ruled_held : EntryRuled (held w) d g ts
    ruled_held =
        record {
          agree = ap (λ (ns : List ℕ). of_writes (calls ts) ns) numbers_alike ∙ r.agree;
          never = subst (λ (ns : List ℕ). Without out_of_range ns) (sym numbers_alike) r.never;
          taken = ap (λ (k : Held). (used_entry k.image).number) same.same_held ∙ ap (λ (l : Loaded). l.number) end_loads;
          next = subst (λ (k : Held). Refuses d (free_in k) May (λ (t : Turn). (entered k t).number)) (sym same.same_held)
              (subst (λ (u : ℕ). Refuses d (length (run w ts).log - u) May (λ (t : Turn). (entered (held (run w ts)) t).number)) (sym used_end)
              end_next);
          within = subst (λ (k : Held). (used_in k % width ≡ 0) × (used_in k ≤ length k.log)) (sym same.same_held)
              (subst (λ (u : ℕ). (u % width ≡ 0) × (u ≤ length (run w ts).log)) (sym used_end) r.within);
          grows = λ later k t.
              let c = same.same_copies in
              let e = (alike w (ts ++ later) s (typed_append ts later h t)).same_copies in
              ap (λ (cs : List (List ℕ)). take (length (joined (entry_copies (held w) ts))) (joined cs)) e
              ∙ ap (λ (cs : List (List ℕ)). take (length (joined cs)) (joined (copies_from w (ts ++ later)))) c
              ∙ ap (λ (l : List ℕ). take (length (joined (copies_from w ts))) l) (r.grows later k)
              ∙ take_at (joined (copies_from w ts)) _ (length (joined (copies_from w ts))) refl
              ∙ ap joined (sym c);
          stood = λ later. ap (λ (k : Held). k.save) same.same_held ∙ r.stood later;
        }

-- the calls' words are words
call_bytes : (c : Call) → CallTyped c → Bytes (writes_of c)
unfolding writes_of
call_bytes (call.ReadByte i) t = tt
call_bytes (call.ReadWord i) t = tt
call_bytes (call.ReadCgbLcdRam i bank) t = tt
call_bytes (call.WriteByte i v) t = (t, tt)
call_bytes (call.WriteWord i v) t = (omega arith, (omega arith, tt))
call_bytes (call.DoDmaTransfer page) t = tt
call_bytes call.DoHdma t = tt
call_bytes (call.State c) t = tt

calls_typed : (ts : List Turn) → TurnsTyped ts → Typed (calls ts)
calls_typed [] h = tt
calls_typed (t ∷ ts) h = (call_bytes t.call h.0.call, calls_typed ts h.1)

-- on a fresh bus
kept_at : (l : Lent) (ts : List Turn) → (start l).number ≡ done → Sound (begin l) → AllLend (ram_of l) ts → TurnsTyped ts
    → EntryKept l (held (begin l)) ts
kept_at l ts z s m h =
    let k = promise l ts z m in
    record {
      told = told_held (begin l) s ts h k.told;
      typed = calls_typed ts h;
      ruled = ruled_held (begin l) s ts h (terms l) (opening l) k.ruled;
    }

pub entry_promise : EntryPromise
entry_promise image l ts z b m h =
    let f = fresh_done image l.vram l.wram (start l) z in
    let s : Sound (begin l) =
    record {
      state = begun_fine l f.0;
      save = b;
      stores =
          fresh_storable l.kind l.banks l.code l.colour l.rom l.vram l.wram l.image l.log l.sound refl f.0;
    } in
    rw f.1 (kept_at l ts f.0 s m h)

pub entry_begins : EntryBegins
unfolding fresh_entry
entry_begins image l = (
  λ e. subst (λ (n : ℕ). Judged l n) (sym (fresh_number image l.vram l.wram (start l) e)) (begins l),
  λ n. rw (ne_eqb (length image) image_len n),
)

-- on any image that is taken: it is the image of its state

held_able : (h : Held) → (state_in_range (bus_in h).state ≡ true) × (use_in_range (used_in h) log_limit ≡ true) → Holding h → Able (bus_in h)
unfolding in_range
held_able h p o =
    record {
      range = rw p.0 (use_joins (used_in h) (length h.log) (use_parts (used_in h) log_limit p.1).0 o.used);
      save = o.ram;
      log = o.log;
    }

pub entry_resumed : EntryResumed
entry_resumed h ts o m t =
    let w = bus_in h in
    let i = image_back h.image o.image o.taken in
    let e : held w ≡ h =
    ap (λ (b : List ℕ). record { image = b; vram = h.vram; wram = h.wram; save = h.save; log = h.log }) i.1 in
    let p = parts w.state i.0 in
    let s : Sound w =
    record { state = typed_fine w.state (loaded_typed h.image o.image o.taken) p.0; save = o.save; stores = i.0 } in
    let a = held_able h p o in
    let c = resumed w ts a m in
    let q = same w s ts t in
    record {
      save = subst (λ (k : Held). (entry_run k ts).save ≡ apply_all h.save (admitted_from w ts)) e
          (ap (λ (k : Held). k.save) q.same_held ∙ c.save);
      log = subst (λ (k : Held). joined (entry_copies k ts) ≡ used_of h ++ records_of (admitted_from w ts)) e
          (ap joined q.same_copies ∙ c.log);
      ruled = subst (λ (k : Held). EntryRuled k (terms_of w) (gate_of w) ts) e (ruled_held w s ts t (terms_of w) (gate_of w) c.ruled);
      older = λ image r.
          let d = c.older image r (calls_typed ts t) in (
            subst (λ (k : Held). recover_all image (entry_copies k ts) ≡ (entry_run k ts).save) e
                (ap (λ (cs : List (List ℕ)). recover_all image cs) q.same_copies ∙ d.0 ∙ sym (ap (λ (k : Held). k.save) q.same_held)),
            λ n.
                subst
                (λ (k : Held).
                recover_all image (cut_copies n (entry_copies k ts)) ≡ apply_all image (take (n / width) (records (used_of h) ++ admitted_from w ts))) e
                (ap (λ (cs : List (List ℕ)). recover_all image (cut_copies n cs)) q.same_copies ∙ d.1 n),
            λ n.
                subst (λ (k : Held). Recovers image (cut_copies n (entry_copies k ts))) e
                (subst (λ (cs : List (List ℕ)). Recovers image (cut_copies n cs)) (sym q.same_copies) (d.2 n)),
          );
      unused = λ u.
          subst (λ (k : Held). Told h.save (entry_run k ts).save (entry_copies k ts) (calls ts) (admitted_from w ts)) e
          (told_held w s ts t (c.unused u));
    }
