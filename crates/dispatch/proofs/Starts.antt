-- A fresh bus that is not refused: every call can be made on it, and its log is unused.
use mathlib.Core.Bool.{Bool, true, false, cond, ◌&&◌}
use mathlib.Core.List.{List}
use mathlib.Core.Path.{◌≡◌, refl, ap, ◌∙◌}
use Prim.Native.Nat.{ℕ, ◌≤◌}
use native.Mathlib.Omega.{arith}
use lib.Dec.{eqb, leb}
use lib.ListN.{length, replicate, length-replicate}
use borrow.Author.Tests.{eqb-false, eqb-true, leb-true, le-leb}
use Rattle.bus.proofs.Passes.{lengths_pass}
use Rattle.bus.specs.Fresh.{Begun, begun, started_by, fresh_refused, beginning}
use Rattle.mbc.specs.Mbc as mbc
use Rattle.mbc.specs.Mbc.{Fresh}
use Rattle.memory.proofs.Laws.{fresh_range}
use Rattle.memory.specs.Start.{zeroed, started as startedWith}
use Rattle.memory.specs.World.{world}
use Rattle.memory.specs.declared.Memory.{Memory}
use Rattle.numbers.specs.Numbers.{done}
use Rattle.refusals.proofs.Answers.{both_pass}
use Rattle.refusals.specs.Refusal.{lent_refused, log_refused}
use Rattle.rules.proofs.Tests.{both_true, passes}
use Rattle.savelog.specs.Log.{log_limit, use_in_range}
use Rattle.dispatch.specs.Unchanged.{RefusedFresh}
use Rattle.dispatch.specs.Lent.{Lent, start}
use Rattle.dispatch.proofs.Open.{Good}

-- what was begun and not refused
pub by_begun : (P : Begun → Type 0) (n : ℕ) (m : Memory) (v w : List ℕ) → (beginning n m v w).number ≡ 0
    → (n ≡ 0 → P (begun 0 m (replicate (length v) 0) (replicate (length w) 0))) → P (beginning n m v w)
unfolding beginning
by_begun P n m v w z f = by_test (eqb n 0) refl z
  where
    by_test : (b : Bool) → eqb n 0 ≡ b → (cond b (begun 0 m (replicate (length v) 0) (replicate (length w) 0)) (begun n zeroed v w)).number ≡ 0
        → P (cond b (begun 0 m (replicate (length v) 0) (replicate (length w) 0)) (begun n zeroed v w))
    by_test true e z = f (eqb-true n 0 e)
    by_test false e z = absurd (eqb-false n 0 e z)

-- a description in range starts in range
taken : (b : Bool) (f g : Fresh) → (g.number ≡ 0 → ⊥) → (cond b f g).number ≡ 0 → (cond b f g ≡ f) × (b ≡ true)
taken true f g h z = (refl, refl)
taken false f g h z = absurd (h z)

fresh_made : (kind banks code : ℕ) → (mbc.fresh kind banks code).number ≡ 0
    → (mbc.fresh kind banks code ≡ record { number = 0; cartridge = mbc.cartridge_of banks code; mapper = mbc.start kind })
    × (mbc.described (mbc.cartridge_of banks code) (mbc.start kind) ≡ true)
unfolding mbc.fresh
fresh_made kind banks code z =
    let c = mbc.cartridge_of banks code in
    let t = taken (mbc.known kind && mbc.described c (mbc.start kind)) _ _ (λ e. omega arith) z in
    (t.0, (both_true (mbc.known kind) (mbc.described c (mbc.start kind)) t.1).1)

log_passes : (n : ℕ) → log_refused n ≡ 0 → n ≤ log_limit
unfolding log_refused
log_passes n z = leb-true n log_limit (passes (leb n log_limit) 4 (omega arith) z)

pub record Started (l : Lent) (b : Begun) : Type 0 where
  pub good : Good (world b.state b.vram b.wram l.image l.log)
  pub unused : b.state.core.used ≡ 0
  pub cartridge : b.state.core.cartridge ≡ mbc.cartridge_of l.banks l.code
  pub mapper : b.state.core.mapper ≡ mbc.start l.kind

begun_started : (l : Lent)
    → fresh_refused (mbc.fresh l.kind l.banks l.code).number (started_by l.kind l.banks l.code l.colour) (length l.rom)
    (length l.vram) (length l.wram) (length l.image) (length l.sound) (length l.log)
    ≡ 0
    → Started l
    (begun 0 (started_by l.kind l.banks l.code l.colour) (replicate (length l.vram) 0) (replicate (length l.wram) 0))
unfolding fresh_refused lent_refused startedWith use_in_range
begun_started l e =
    let p = both_pass _ _ e in
    let q = both_pass _ _ p.1 in
    let n = lengths_pass _ _ _ _ _ _ q.0 in
    let f = fresh_made l.kind l.banks l.code p.0 in
    record {
      good = record {
        holds = record {
          state = rw f.0 (fresh_range (mbc.cartridge_of l.banks l.code) l.kind l.colour f.1);
          vram = length-replicate (length l.vram) 0 ∙ n.1;
          wram = length-replicate (length l.wram) 0 ∙ n.2;
          save = n.3;
          log = log_passes (length l.log) q.1;
        };
        used = rw (le-leb 0 (length l.log) (omega arith));
      };
      unused = refl;
      cartridge = ap (λ (m : Fresh). m.cartridge) f.0;
      mapper = ap (λ (m : Fresh). m.mapper) f.0;
    }

pub started : (l : Lent) → (start l).number ≡ done → Started l (start l)
started l z = by_begun (Started l) _ _ _ _ z (begun_started l)

-- a fresh bus that is refused
pub begun_refused : (n : ℕ) (m : Memory) (v w : List ℕ) → ((beginning n m v w).number ≡ 0 → ⊥) → beginning n m v w ≡ begun n zeroed v w
unfolding beginning
begun_refused n m v w h = by_test (eqb n 0) h
  where
    by_test : (b : Bool) → ((cond b (begun 0 m (replicate (length v) 0) (replicate (length w) 0)) (begun n zeroed v w)).number ≡ 0 → ⊥)
        → cond b (begun 0 m (replicate (length v) 0) (replicate (length w) 0)) (begun n zeroed v w) ≡ begun n zeroed v w
    by_test true h = absurd (h refl)
    by_test false h = refl

pub refused_fresh : RefusedFresh
refused_fresh l h =
    let e = begun_refused _ _ _ _ h in
    (ap (λ (b : Begun). b.state) e, ap (λ (b : Begun). b.vram) e, ap (λ (b : Begun). b.wram) e)
