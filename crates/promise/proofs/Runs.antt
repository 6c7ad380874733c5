-- The list of calls, by induction: what the first call leaves, and then the rest.
use mathlib.Core.List.{List, [], ◌∷◌, ◌++◌, append_assoc}
use mathlib.Core.Path.{◌≡◌, refl, ap, sym, subst, ◌∙◌}
use Prim.Native.Nat.{ℕ}
use lib.ListN.{length, take}
use lib.Seq.{take_at}
use Rattle.memory.specs.World.{World}
use Rattle.numbers.specs.Numbers.{out_of_range}
use Rattle.savelog.proofs.Prefix.{apply_all_append}
use Rattle.savelog.specs.Log.{apply_all, joined}
use Rattle.savelog.specs.declared.Rec.{Rec}
use Rattle.promise.specs.Admitted.{records_of}
use Rattle.promise.specs.Bus.{kind_of}
use Rattle.promise.specs.Calls.{writes_of}
use Rattle.promise.specs.Gate.{Terms, Gate, ruled, gate_after, gates_after, admitted_by, of_write, ruled_all}
use Rattle.promise.specs.Promise.{Without, Ruled, free, Refuses}
use Rattle.promise.specs.Runs.{
  Turn,
  Lends,
  AllLend,
  calls,
  made,
  run,
  numbers,
  of_writes,
  asked,
  asked_all,
  terms_of,
  gate_of,
  admitted_from,
  Able,
  used_bytes,
  copied_before,
  copies_from,
}
use Rattle.promise.proofs.Lists.{records_join, joined_append}
use Rattle.promise.proofs.Room.{able_use, refuses, never_three}
use Rattle.promise.proofs.Turns.{first, Turned, turned}

-- what is lent to the rest is asked for by the same terms
pub rest : {w : World} {t : Turn} (ts : List Turn) → Turned w t → AllLend (terms_of w).ram ts → AllLend (terms_of (made w t).after).ram ts
rest ts m h = subst (λ (d : Terms). AllLend d.ram ts) (sym m.terms) h

pub run_able : (w : World) (ts : List Turn) → Able w → AllLend (terms_of w).ram ts → Able (run w ts)
unfolding run
run_able w [] a h = a
run_able w (t ∷ ts) a h = let m = turned w a t h.0 in run_able (made w t).after ts m.able (rest ts m h.1)

run_terms : (w : World) (ts : List Turn) → Able w → AllLend (terms_of w).ram ts → terms_of (run w ts) ≡ terms_of w
unfolding run
run_terms w [] a h = refl
run_terms w (t ∷ ts) a h = let m = turned w a t h.0 in run_terms (made w t).after ts m.able (rest ts m h.1) ∙ m.terms

-- from what a turn leaves, the machine goes on
on_from : {A : Type 0} (f : Terms → Gate → A) {w : World} {t : Turn} → Turned w t
    → f (terms_of (made w t).after) (gate_of (made w t).after) ≡ f (terms_of w) (gate_after (terms_of w) (gate_of w) (asked (terms_of w) t))
on_from f {w} {t} m = ap (λ (d : Terms). f d (gate_of (made w t).after)) m.terms ∙ ap (λ (g : Gate). f (terms_of w) g) m.gate

admitted_more : {w : World} {t : Turn} (ts : List Turn) → Turned w t
    → admitted_from w (t ∷ ts) ≡ first w t ++ admitted_from (made w t).after ts
unfolding admitted_by asked_all
admitted_more {w} {t} ts m =
    ap (λ (rs : List Rec). first w t ++ rs) (sym (on_from (λ (d : Terms) (g : Gate). admitted_by d g (asked_all d ts)) m))

pub run_save : (w : World) (ts : List Turn) → Able w → AllLend (terms_of w).ram ts → (run w ts).save ≡ apply_all w.save (admitted_from w ts)
unfolding run admitted_by asked_all apply_all
run_save w [] a h = refl
run_save w (t ∷ ts) a h =
    let m = turned w a t h.0 in
    let u = (made w t).after in
    run_save u ts m.able (rest ts m h.1)
    ∙ ap (λ (s : List ℕ). apply_all s (admitted_from u ts)) m.save
    ∙ sym (apply_all_append w.save (first w t) (admitted_from u ts))
    ∙ ap (λ (rs : List Rec). apply_all w.save rs) (sym (admitted_more ts m))

pub run_log : (w : World) (ts : List Turn) → Able w → AllLend (terms_of w).ram ts
    → joined (copies_from w ts) ≡ used_bytes w ++ records_of (admitted_from w ts)
unfolding copies_from admitted_by asked_all records_of joined
run_log w [] a h = refl
run_log w (t ∷ ts) a h =
    let m = turned w a t h.0 in
    let u = (made w t).after in
    let k = copied_before (kind_of t.call) (made w t).number (used_bytes w) in
    joined_append k (copies_from u ts)
    ∙ ap (λ (l : List ℕ). joined k ++ l) (run_log u ts m.able (rest ts m h.1))
    ∙ sym (append_assoc (joined k) (used_bytes u) (records_of (admitted_from u ts)))
    ∙ ap (λ (l : List ℕ). l ++ records_of (admitted_from u ts)) m.log
    ∙ append_assoc (used_bytes w) (records_of (first w t)) (records_of (admitted_from u ts))
    ∙ ap (λ (l : List ℕ). used_bytes w ++ l) (sym (records_join (first w t) (admitted_from u ts)))
    ∙ ap (λ (rs : List Rec). used_bytes w ++ records_of rs) (sym (admitted_more ts m))

-- the admitted writes of the first calls come first
pub admitted_append : (w : World) (ts later : List Turn) → Able w → AllLend (terms_of w).ram ts
    → admitted_from w (ts ++ later) ≡ admitted_from w ts ++ admitted_from (run w ts) later
unfolding run admitted_by asked_all
admitted_append w [] later a h = refl
admitted_append w (t ∷ ts) later a h =
    let m = turned w a t h.0 in
    let u = (made w t).after in
    admitted_more (ts ++ later) m
    ∙ ap (λ (rs : List Rec). first w t ++ rs) (admitted_append u ts later m.able (rest ts m h.1))
    ∙ sym (append_assoc (first w t) (admitted_from u ts) (admitted_from (run u ts) later))
    ∙ ap (λ (rs : List Rec). rs ++ admitted_from (run u ts) later) (sym (admitted_more ts m))

lend_append : (ram : ℕ) (ts later : List Turn) → AllLend ram ts → AllLend ram later → AllLend ram (ts ++ later)
lend_append ram [] later h k = k
lend_append ram (t ∷ ts) later h k = (h.0, lend_append ram ts later h.1 k)

run_agree : (w : World) (ts : List Turn) → Able w → AllLend (terms_of w).ram ts
    → of_writes (calls ts) (numbers w ts) ≡ ruled_all (terms_of w) (gate_of w) (asked_all (terms_of w) ts)
unfolding numbers of_writes ruled_all asked_all
run_agree w [] a h = refl
run_agree w (t ∷ ts) a h =
    let m = turned w a t h.0 in
    let u = (made w t).after in
    ap (λ (ns : List ℕ). ns ++ of_writes (calls ts) (numbers u ts)) m.agree
    ∙ ap (λ (ns : List ℕ). of_write (writes_of t.call) (ruled (terms_of w).log (gate_of w) (asked (terms_of w) t)) ++ ns)
    (run_agree u ts m.able (rest ts m h.1) ∙ on_from (λ (d : Terms) (g : Gate). ruled_all d g (asked_all d ts)) m)

run_gate : (w : World) (ts : List Turn) → Able w → AllLend (terms_of w).ram ts
    → gate_of (run w ts) ≡ gates_after (terms_of w) (gate_of w) (asked_all (terms_of w) ts)
unfolding run gates_after asked_all
run_gate w [] a h = refl
run_gate w (t ∷ ts) a h =
    let m = turned w a t h.0 in
    run_gate (made w t).after ts m.able (rest ts m h.1) ∙ on_from (λ (d : Terms) (g : Gate). gates_after d g (asked_all d ts)) m

run_never : (w : World) (ts : List Turn) → Able w → AllLend (terms_of w).ram ts → Without out_of_range (numbers w ts)
unfolding numbers
run_never w [] a h = tt
run_never w (t ∷ ts) a h =
    let m = turned w a t h.0 in
    (never_three w a t h.0, run_never (made w t).after ts m.able (rest ts m h.1))

pub run_ruled : (w : World) (ts : List Turn) → Able w → AllLend (terms_of w).ram ts → Ruled w (terms_of w) (gate_of w) ts
run_ruled w ts a h =
    let u = run w ts in
    let b = run_able w ts a h in
    record {
      agree = run_agree w ts a h;
      gate = run_gate w ts a h;
      never = run_never w ts a h;
      able = b;
      next = subst (λ (d : Terms). Refuses d (free u) (Lends d.ram) (λ (t : Turn). (made u t).number)) (run_terms w ts a h) (refuses u b);
      within = able_use u b;
      more = λ later. admitted_append w ts later a h;
      grows = λ later k.
          run_log w (ts ++ later) a (lend_append (terms_of w).ram ts later h k)
          ∙ ap (λ (rs : List Rec). used_bytes w ++ records_of rs) (admitted_append w ts later a h)
          ∙ ap (λ (l : List ℕ). used_bytes w ++ l) (records_join (admitted_from w ts) (admitted_from u later))
          ∙ sym (append_assoc (used_bytes w) (records_of (admitted_from w ts)) (records_of (admitted_from u later)))
          ∙ ap (λ (l : List ℕ). l ++ records_of (admitted_from u later)) (sym (run_log w ts a h));
      stood = λ later.
          let n = length (admitted_from w ts) in
          run_save w ts a h
          ∙ ap (λ (rs : List Rec). apply_all w.save rs)
          (sym
          (ap (λ (rs : List Rec). take n rs) (admitted_append w ts later a h)
          ∙ take_at (admitted_from w ts) (admitted_from u later) n refl));
    }
