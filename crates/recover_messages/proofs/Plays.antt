-- A journal played part by part is played as a whole. And recovery by old records is that of the converted log.
use mathlib.Core.Bool.{Bool, true, false, cond}
use mathlib.Core.Path.{◌≡◌, refl, sym, ap, ◌∙◌}
use mathlib.Core.List.{List, [], ◌∷◌, ◌++◌, append-nil}
use Prim.Native.Nat.{ℕ, ◌-◌, ◌%◌, ◌≤◌, ◌<◌}
use native.Mathlib.Decide.{dec_lt}
use native.Mathlib.Omega.{arith}
use lib.Dec.{leb, eqb}
use lib.ListN.{length, take}
use lib.Seq.{take_all, length-take-le}
use borrow.Author.Tests.{lt-ltb, ltb-true, le-leb, lt-leb}
use Rattle.numbers.specs.Numbers.{done, wrong_length, damaged}
use Rattle.rules.proofs.Tests.{both_true, untrue}
use Rattle.savelog.specs.Log.{width_of, end_of, log_limit, save_lengths, one_of, records_by, sound_record, all_sound, apply_all, Outcome, outcome, lengths_fit, recovery}
use Rattle.savelog.specs.declared.Form.{Form}
use Rattle.savelog.specs.declared.Form.TheVariants.{Three, Four}
use Rattle.savelog.specs.declared.Rec.{Rec}
use Rattle.savelog.specs.Convert.{Conversion, converted, conversion, room, length_by, old_recovery}
use Rattle.savelog.proofs.Laws.{some_width, records_none, save_within}
use Rattle.savelog.proofs.Converts.{result, by_sound}
use Rattle.savelog.proofs.ConvertLaws.{same_records, past_stays, old_lengths}
use Rattle.savelog.proofs.Prefix.{take_append, records_append, length_apply_all, apply_all_append, all_sound_append}
use Rattle.recover_messages.specs.declared.journal.Scan.{Scan}
use Rattle.recover_messages.specs.Journal.{unread, scanned, recovery_by, PresentLaw, OldLaw, part_limit, Played, PlayedPart}
use Rattle.recover_messages.proofs.Scans.{parts, whole}

-- recovery that is done found every record sound, and applied them
by_tests : (a b : Bool) (save save' after : List ℕ)
    → outcome done save' ≡ cond a (cond b (outcome done after) (outcome damaged save)) (outcome wrong_length save)
    → (b ≡ true) × (save' ≡ after)
by_tests true true save save' after e = (refl, ap (λ (o : Outcome). o.save) e)
by_tests true false save save' after e = absurd (let n : done ≡ damaged = ap (λ (o : Outcome). o.number) e in omega arith)
by_tests false b save save' after e = absurd (let n : done ≡ wrong_length = ap (λ (o : Outcome). o.number) e in omega arith)

is_done : (f : Form) (save log save' : List ℕ) → outcome done save' ≡ recovery_by f save log
    → (all_sound (length save) (records_by f log) ≡ true) × (save' ≡ apply_all save (records_by f log))
unfolding recovery_by
is_done f save log save' e =
    by_tests (lengths_fit (length save) (length_by f Four (length log))) (all_sound (length save) (records_by f log)) save save' (apply_all save (records_by f log)) e

-- before the first byte
pub none_played : (f : Form) (kept : ℕ) (save : List ℕ) → Played f kept unread save save
unfolding scanned all_sound apply_all
none_played f kept save =
    let n : take {A = ℕ} kept [] ≡ [] = take_all {A = ℕ} kept [] (omega arith) in
    let z : records_by f (take {A = ℕ} kept []) ≡ [] = rw n (records_none f [] (some_width f)) in
    record { journal = []; read = refl; sound = rw z; applied = rw z }

-- the whole of what is played, behind what was
joins : (f : Form) (kept : ℕ) (j part : List ℕ) → length j % width_of f ≡ 0 → Dec (kept < length j)
    → records_by f (take kept (j ++ part)) ≡ records_by f (take kept j) ++ records_by f (take (kept - length j) part)
joins f kept j part w (yes h) =
    let z : kept - length j ≡ 0 = omega arith in
    let n : records_by f [] ≡ [] = records_none f [] (some_width f) in
    rw (take_append kept j part, z, append-nil (take kept j), n, append-nil (records_by f (take kept j)))
joins f kept j part w (no h) =
    let a : take kept j ≡ j = take_all kept j (omega (arith, h)) in
    rw (take_append kept j part, a, records_append f j (take (kept - length j) part) w)

pub played_more : (f : Form) (kept : ℕ) (s r : Scan) (s₀ s₁ s₂ : List ℕ) → Played f kept s s₀ s₁ → PlayedPart f kept s s₁ s₂ r → Played f kept r s₀ s₂
played_more f kept s r s₀ s₁ s₂ p q =
    let j = p.journal in
    let l : s.len ≡ length j = ap (λ (x : Scan). x.len) (sym p.read ∙ whole j) in
    let t : records_by f (take kept (j ++ q.part)) ≡ records_by f (take kept j) ++ records_by f (take (kept - s.len) q.part) =
    rw l (joins f kept j q.part (rw l at q.whole) (dec_lt kept (length j))) in
    let d = is_done f s₁ (take (kept - s.len) q.part) s₂ q.recovered in
    let k : length s₁ ≡ length s₀ = rw p.applied (length_apply_all s₀ (records_by f (take kept j))) in
    record {
      journal = j ++ q.part;
      read = parts unread j q.part ∙ ap (λ (x : Scan). scanned x q.part) p.read ∙ q.read;
      sound = rw t (all_sound_append (length s₀) (records_by f (take kept j)) (records_by f (take (kept - s.len) q.part)) p.sound (rw k at d.0));
      applied = d.1 ∙ rw (t, apply_all_append s₀ (records_by f (take kept j)) (records_by f (take (kept - s.len) q.part)), ← p.applied);
    }

-- By the present form it is recovery: a log of at most 65,535 bytes has whole records of as many.
log_length : (n : ℕ) → Dec (log_limit < n) → leb (length_by Four Four n) log_limit ≡ leb n log_limit
log_length n (yes h) = rw (lt-leb (length_by Four Four n) log_limit (omega arith), lt-leb n log_limit h)
log_length n (no h) = rw (le-leb (length_by Four Four n) log_limit (omega (arith, h)), le-leb n log_limit (omega (arith, h)))

pub present : PresentLaw
unfolding recovery_by recovery lengths_fit
present save log = rw (log_length (length log) (dec_lt log_limit (length log)))

pub old_law : OldLaw
unfolding recovery_by old_recovery lengths_fit
old_law save log h k =
    let n : length log ≤ log_limit = omega arith in
    rw (old_lengths (length save) h, le-leb (length_by Three Four (length log)) log_limit k, le-leb (length log) log_limit n)

-- sound for a save is sound for a longer one
sound_longer : (ram end : ℕ) → ram ≤ end → (rs : List Rec) → all_sound ram rs ≡ true → all_sound end rs ≡ true
unfolding all_sound
sound_longer ram end h [] e = refl
sound_longer ram end h (r ∷ rs) e =
    let t = both_true (sound_record ram r) (all_sound ram rs) e in
    let u = both_true (eqb r.mark 1) _ t.0 in
    let w = both_true (eqb r.spare 0) _ u.1 in
    rw (u.0, w.0, lt-ltb r.address end (omega (arith, h, ltb-true r.address ram w.1)), sound_longer ram end h rs t.1)

unsound : (ram end : ℕ) → ram ≤ end → (rs : List Rec) → all_sound end rs ≡ false → all_sound ram rs ≡ false
unsound ram end h rs e = pick (all_sound ram rs) (sound_longer ram end h rs)
  where
    pick : (b : Bool) → (b ≡ true → all_sound end rs ≡ true) → b ≡ false
    pick true g = untrue (sym e ∙ g refl)
    pick false g = refl

-- A part of old records, of a length that a part has, and a target with room for it.
module _ (save part target : List ℕ) (o : one_of (length save) save_lengths ≡ true) (p : length part ≤ part_limit Three) (t : 65532 ≤ length target) where
  fits : lengths_fit (length save) (length_by Three Four (length part)) ≡ true
  unfolding lengths_fit
  fits = rw (o, le-leb (length_by Three Four (length part)) log_limit (omega arith))

  has_room : room Three Four (length part) (length target) ≡ true
  unfolding room
  has_room =
      rw (
        le-leb (length part) log_limit (omega arith),
        le-leb (length_by Three Four (length part)) log_limit (omega arith),
        le-leb (length_by Three Four (length part)) (length target) (omega arith),
      )

  by_one_test : conversion Three Four part target
      ≡ cond (all_sound (end_of Four) (records_by Three part)) (converted done (length_by Three Four (length part)) (result Three Four part target)) (converted damaged 0 target)
  by_one_test = by_sound Three Four part target ∙ rw has_room

  refused_by : (b : Bool) (n : ℕ) (c : Conversion) → all_sound (end_of Four) (records_by Three part) ≡ b
      → c ≡ cond b (converted done (length_by Three Four (length part)) (result Three Four part target)) (converted damaged 0 target)
      → n ≡ c.number → (n ≡ done → ⊥) → outcome n save ≡ recovery_by Three save part
  unfolding recovery_by
  refused_by true n c e q m d = absurd (d (m ∙ ap (λ (x : Conversion). x.number) q))
  refused_by false n c e q m d =
      let u = unsound (length save) (end_of Four) (save_within (length save) o) (records_by Three part) e in
      rw (fits, u, m ∙ ap (λ (x : Conversion). x.number) q)

  -- a refusal of the converter is one of recovery
  pub not_converted : (c : Conversion) → c ≡ conversion Three Four part target → (c.number ≡ done → ⊥) → outcome c.number save ≡ recovery_by Three save part
  not_converted c e d = refused_by (all_sound (end_of Four) (records_by Three part)) c.number c refl (e ∙ by_one_test) refl d

  -- how long the new log is
  len_by : (b : Bool) (c : Conversion) → c ≡ cond b (converted done (length_by Three Four (length part)) (result Three Four part target)) (converted damaged 0 target)
      → c.number ≡ done → c.len ≡ length_by Three Four (length part)
  len_by true c q d = ap (λ (x : Conversion). x.len) q
  len_by false c q d = absurd (let n : damaged ≡ done = sym (ap (λ (x : Conversion). x.number) q) ∙ d in omega arith)

  pub new_len : (c : Conversion) → c ≡ conversion Three Four part target → c.number ≡ done
      → (c.len ≡ length_by Three Four (length part)) × (length c.target ≡ length target)
  new_len c e d = (
    len_by (all_sound (end_of Four) (records_by Three part)) c (e ∙ by_one_test) d,
    ap (λ (x : Conversion). length x.target) e ∙ (past_stays Three Four part target).0,
  )

  -- and recovery of the new log is by the old one's records
  pub as_converted : (c : Conversion) → c ≡ conversion Three Four part target → c.number ≡ done
      → recovery save (take c.len c.target) ≡ recovery_by Three save part
  unfolding recovery_by recovery lengths_fit
  as_converted c e d =
      let l = new_len c e d in
      let m : length (take c.len c.target) ≡ length_by Three Four (length part) = length-take-le c.len c.target (omega (arith, l.0, l.1)) ∙ l.0 in
      let s : records_by Four (take c.len c.target) ≡ records_by Three part =
      ap (λ (x : Conversion). records_by Four (take x.len x.target)) e
      ∙ same_records Three Four part target (ap (λ (x : Conversion). x.number) (sym e) ∙ d) in
      rw (m, s)
