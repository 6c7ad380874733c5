-- A digest goes on where another ended.
use mathlib.Core.Path.{◌≡◌, refl, sym, ap, ◌∙◌}
use mathlib.Core.List.{List, [], ◌∷◌, ◌++◌}
use Prim.Native.Nat.{ℕ}
use lib.ListN.{take}
use Rattle.std.specs.List.{fold}
use Rattle.std.proofs.Common.{min, arith}
use Rattle.memory.specs.World.{world}
use Rattle.memory.specs.declared.Memory.{Memory}
use Rattle.bus_host.specs.Host.{smaller, lent_parts}
use Rattle.bus_host.specs.Digest.{mixed, digest, log_bytes, memory_bytes}
use Rattle.bus_host.specs.declared.host.Lengths.{Lengths}

pub digest_append : (h : ℕ) (a b : List ℕ) → digest h (a ++ b) ≡ digest (digest h a) b
unfolding digest
digest_append h [] b = refl
digest_append h (x ∷ a) b = digest_append (mixed h x) a b

-- as std's fold has it
pub digest_fold : (h : ℕ) (a : List ℕ) → digest h a ≡ fold mixed h a
unfolding digest
digest_fold h [] = refl
digest_fold h (x ∷ a) = digest_fold (mixed h x) a

pub digest_four : (h : ℕ) (a b c d : List ℕ) → digest (digest (digest (digest h a) b) c) d ≡ digest h (a ++ b ++ c ++ d)
digest_four h a b c d =
    sym
    (
    digest_append h (a ++ b ++ c) d
    ∙ ap (λ (x : ℕ). digest x d) (digest_append h (a ++ b) c ∙ ap (λ (x : ℕ). digest x c) (digest_append h a b))
    )

pub digest_lent : (n m : Lengths) → n ≡ m → (state : Memory) (v w s log : List ℕ)
    → digest (digest (digest (digest 0 (take n.vram v)) (take n.wram w)) (take n.save s)) (log_bytes state.core.used log) ≡ digest 0 (memory_bytes (lent_parts m (world state v w s log)))
digest_lent n m e state v w s log =
    digest_four 0 (take n.vram v) (take n.wram w) (take n.save s) (log_bytes state.core.used log)
    ∙ ap (λ (k : Lengths). digest 0 (memory_bytes (lent_parts k (world state v w s log)))) e

pub smaller_min : (a b : ℕ) → smaller a b ≡ min a b
unfolding smaller
smaller_min a b = grind arith
