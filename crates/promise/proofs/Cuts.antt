-- The copies: each is whole records, and read back they are the admitted writes, all sound; so the law of crate savelog on cut copies applies.
use mathlib.Core.Bool.{true}
use mathlib.Core.List.{List, [], ◌∷◌, ◌++◌}
use mathlib.Core.Path.{◌≡◌, refl, ap, sym, subst, ◌∙◌}
use Prim.Native.Nat.{ℕ, ◌%◌, ◌<◌, ◌≤◌}
use native.Mathlib.Omega.{arith}
use lib.ListN.{length}
use lib.Seq.{length-take-le}
use Rattle.mbc.proofs.Laws.{by_ram_len, stored_within, ram_len_after}
use Rattle.mbc.specs.Mbc.{ram_len, mapped, answer}
use Rattle.mbc.specs.declared.cartridge.Cartridge.{Cartridge}
use Rattle.mbc.specs.declared.mbc.Mapper.{Mapper}
use Rattle.mbc.specs.declared.mbc.Stored.{Stored}
use Rattle.std.specs.Prelude.{Option, Some, None}
use Rattle.memory.specs.World.{World}
use Rattle.rules.proofs.Tests.{both_true, cond_both}
use Rattle.savelog.proofs.Laws.{stored_sound, records_none}
use Rattle.savelog.proofs.Prefix.{records_append}
use Rattle.savelog.proofs.Use.{record_first}
use Rattle.savelog.specs.Laws.{Copies, none, more}
use Rattle.savelog.specs.declared.Form.TheVariants.{Four}
use Rattle.savelog.specs.Log.{width, address_end, stored, records, sound_record, all_sound, joined, log_limit, save_lengths, one_of}
use Rattle.savelog.specs.declared.Rec.{Rec}
use Rattle.promise.specs.Bus.{in_save, refused, Kind, Reading, Clearing, Other, kind_of}
use Rattle.promise.specs.Calls.{ByteWrite, writes_of}
use Rattle.promise.specs.Admitted.{granted, mapper_after, mappers_after, answered, let_in, let_in_all, records_of}
use Rattle.promise.specs.Gate.{Terms, Gate, ruled, passed, lets, gate_after, admitted_by}
use Rattle.promise.specs.Promise.{Bytes, Typed}
use Rattle.promise.specs.Runs.{Turn, AllLend, calls, made, asked, asked_all, terms_of, Able, used_bytes, copied_before, copies_from}
use Rattle.promise.proofs.Room.{able_use}
use Rattle.promise.proofs.Runs.{rest}
use Rattle.promise.proofs.Turns.{turned}

-- Records that a log for a save of `ram` bytes holds

abbrev pub Fit : ℕ → List Rec → Type 0
Fit ram [] = Unit {0}
Fit ram (r ∷ rs) = ((r ≡ stored r.address r.value) × (r.address < ram) × (r.value < 256)) × Fit ram rs

fit_append : (ram : ℕ) (a b : List Rec) → Fit ram a → Fit ram b → Fit ram (a ++ b)
fit_append ram [] b f g = g
fit_append ram (r ∷ a) b f g = (f.0, fit_append ram a b f.1 g)

pub fit_sound : (ram : ℕ) (rs : List Rec) → Fit ram rs → all_sound ram rs ≡ true
unfolding all_sound
fit_sound ram [] f = refl
fit_sound ram (r ∷ rs) f =
    let e : sound_record ram r ≡ true = ap (sound_record ram) f.0.0 ∙ stored_sound ram r.address r.value f.0.1 in
    rw e (fit_sound ram rs f.1)

pub fit_read : (ram : ℕ) → ram ≤ address_end → (rs : List Rec) → Fit ram rs → records (records_of rs) ≡ rs
unfolding records_of
fit_read ram h [] f = records_none Four [] (omega arith)
fit_read ram h (r ∷ rs) f =
    let a : r.address < address_end = omega (arith, f.0.1) in
    record_first Four r.address r.value (records_of rs) f.0.2 a
    ∙ ap (λ (l : List Rec). stored r.address r.value ∷ l) (fit_read ram h rs f.1)
    ∙ ap (λ (q : Rec). q ∷ rs) (sym f.0.0)

-- what a mapper lets in fits, whatever was written before

answered_fit : (c : Cartridge) (m : Mapper) (i v : ℕ) → v < 256 → (a : Option Stored) → answer c m i v ≡ a → Fit (ram_len c m) (answered a)
answered_fit c m i v h (Some x) e = let s = stored_within c m i v x h e in ((refl, s.0, s.1.1), tt)
answered_fit c m i v h None e = tt

ram_after : (c : Cartridge) (m : Mapper) (b : ByteWrite) → ram_len c (mapper_after c m b) ≡ ram_len c m
unfolding mapper_after
ram_after c m b = cond_both (λ (k : Mapper). ram_len c k ≡ ram_len c m) (mapped b.index) (ram_len_after c m b.index b.value) refl

let_fit : (c : Cartridge) (m : Mapper) (bs : List ByteWrite) → Bytes bs → Fit (ram_len c m) (let_in_all c m bs)
unfolding let_in_all let_in
let_fit c m [] h = tt
let_fit c m (b ∷ bs) h =
    fit_append (ram_len c m) (let_in c m b) (let_in_all c (mapper_after c m b) bs)
    (cond_both (Fit (ram_len c m)) (in_save b.index) (answered_fit c m b.index b.value h.0 _ refl) tt)
    (rw (ram_after c m b) at (let_fit c (mapper_after c m b) bs h.1))

rams_after : (c : Cartridge) (m : Mapper) (bs : List ByteWrite) → ram_len c (mappers_after c m bs) ≡ ram_len c m
unfolding mappers_after
rams_after c m [] = refl
rams_after c m (b ∷ bs) = rams_after c (mapper_after c m b) bs ∙ ram_after c m b

granted_bytes : (n : ℕ) (bs : List ByteWrite) → Bytes bs → Bytes (granted n bs)
unfolding granted
granted_bytes n bs h = cond_both Bytes (refused n) tt h

pub admitted_fit : (d : Terms) (g : Gate) (ts : List Turn) → Typed (calls ts)
    → Fit (ram_len d.cartridge g.mapper) (admitted_by d g (asked_all d ts))
unfolding admitted_by asked_all gate_after
admitted_fit d g [] h = tt
admitted_fit d g (t ∷ ts) h =
    let a = asked d t in
    let bs = passed d g a in
    fit_append (ram_len d.cartridge g.mapper) (lets d g a) (admitted_by d (gate_after d g a) (asked_all d ts))
    (let_fit d.cartridge g.mapper bs (granted_bytes (ruled d.log g a) (writes_of t.call) h.0))
    (subst (λ (ram : ℕ). Fit ram (admitted_by d (gate_after d g a) (asked_all d ts))) (rams_after d.cartridge g.mapper bs)
    (admitted_fit d (gate_after d g a) ts h.1))

-- A save's length is one that recovery takes

pub ram_taken : (c : Cartridge) (m : Mapper) → one_of (ram_len c m) save_lengths ≡ true
unfolding one_of save_lengths
ram_taken c m = by_ram_len (λ (n : ℕ). one_of n save_lengths ≡ true) refl refl refl refl refl c m

-- The copies are whole records, and short

abbrev pub WholeCopy : List ℕ → Type 0
WholeCopy l = (length l % width ≡ 0) × (length l ≤ log_limit)

abbrev pub Wholes : List (List ℕ) → Type 0
Wholes [] = Unit {0}
Wholes (l ∷ ls) = WholeCopy l × Wholes ls

pub used_whole : (w : World) → Able w → WholeCopy (used_bytes w)
used_whole w a =
    let u = able_use w a in
    let e = length-take-le w.state.core.used w.log u.1 in
    (rw e u.0, rw e (omega (arith, u.1, a.log)))

before_whole : (k : Kind) (n : ℕ) (l : List ℕ) (ls : List (List ℕ)) → WholeCopy l → Wholes ls → Wholes (copied_before k n l ++ ls)
before_whole Reading n l ls h t = t
before_whole Clearing n l ls h t =
    cond_both (λ (ks : List (List ℕ)). Wholes (ks ++ ls)) (refused n) t (h, t)
before_whole Other n l ls h t = t

pub copies_whole : (w : World) (ts : List Turn) → Able w → AllLend (terms_of w).ram ts → Wholes (copies_from w ts)
unfolding copies_from
copies_whole w [] a h = (used_whole w a, tt)
copies_whole w (t ∷ ts) a h =
    let m = turned w a t h.0 in
    before_whole (kind_of t.call) (made w t).number (used_bytes w) (copies_from (made w t).after ts) (used_whole w a)
    (copies_whole (made w t).after ts m.able (rest ts m h.1))

-- and sound, if what they say together is

sound_split : (ram : ℕ) (a b : List Rec) → all_sound ram (a ++ b) ≡ true → (all_sound ram a ≡ true) × (all_sound ram b ≡ true)
unfolding all_sound
sound_split ram [] b h = (refl, h)
sound_split ram (r ∷ a) b h =
    let t = both_true (sound_record ram r) (all_sound ram (a ++ b)) h in
    let s = sound_split ram a b t.1 in
    (rw (t.0, s.0), s.1)

pub copies_sound : (ram : ℕ) (ls : List (List ℕ)) → Wholes ls → all_sound ram (records (joined ls)) ≡ true → Copies ram ls
unfolding joined
copies_sound ram [] h s = none
copies_sound ram (l ∷ ls) h s =
    let t = sound_split ram (records l) (records (joined ls)) (rw (records_append Four l (joined ls) h.0.0) at s) in
    more (record { whole = h.0.0; short = h.0.1; sound = t.0 }) (copies_sound ram ls h.1 t.1)
