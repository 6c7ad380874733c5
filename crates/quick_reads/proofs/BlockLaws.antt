-- A block of reads: the list filled byte by byte, and what the entry answers.
use Rattle.std.proofs.Common.{◌≡◌, ℕ, zero, suc, ◌+◌, ◌%◌, ◌<◌, ◌≤◌, List, [], length, take, set, sym, refl, ap, ◌∙◌, add-one, arith, take_all, take-suc-set, ne_eqb, le-leb}
use borrow.Author.Tests.{lt-leb}
use Rattle.entry.specs.Entry.{Given}
use Rattle.entry.specs.Host.{block_limit, list_of, block_entry}
use Rattle.image.specs.Load.{stored, load_call}
use Rattle.memory.specs.World.{world, Fixed}
use Rattle.mmu.specs.Access.{read_byte}
use Rattle.refusals.specs.Refusal.{or_else, refused_read}
use Rattle.quick_reads.proofs.ReadLaws.{refused_byte_read, done_byte_read}

-- The loop: so many numbers are there, one more, and all

pub listed_none : (out : List ℕ) (g : ℕ → ℕ) → take 0 out ≡ list_of g 0
unfolding list_of
listed_none out g = refl

pub listed_more : (out : List ℕ) (g : ℕ → ℕ) (i v : ℕ) → i < length out → take i out ≡ list_of g i → v ≡ g i
    → take (i + 1) (set out i v) ≡ list_of g (i + 1)
unfolding list_of
listed_more out g i v h e f = rw (add-one, take-suc-set out i v h, e, f)

pub listed_all : (out : List ℕ) (g : ℕ → ℕ) (i n : ℕ) → length out ≡ n → n ≤ i → i ≤ n → take i out ≡ list_of g i → out ≡ list_of g n
listed_all out g i n e h k f =
    let p : i ≡ n = omega arith in
    sym (take_all i out (omega arith)) ∙ f ∙ ap (list_of g) p

same_list : (f g : ℕ → ℕ) → ((k : ℕ) → f k ≡ g k) → (n : ℕ) → list_of f n ≡ list_of g n
unfolding list_of
same_list f g e zero = refl
same_list f g e (suc n) = rw (same_list f g e n, e n)

-- The answer

module _ (x : Fixed) (i v w s : List ℕ) {n : ℕ} (e : n ≡ or_else (load_call i).number (refused_read x (world (load_call i).state v w s [])))
    (out : List ℕ) (index : ℕ) where
  pub block_refused : (n ≡ 0 → ⊥) → stored n out ≡ block_entry x i v w s out index
  unfolding block_entry
  block_refused h = rw (← refused_byte_read x i v w s e index h, ne_eqb n 0 h)

  module _ (z : n ≡ 0) where
    pub block_long : block_limit < length out → stored 4 out ≡ block_entry x i v w s out index
    unfolding block_entry
    block_long l = rw (← done_byte_read x i v w s e z index refl, lt-leb (length out) 65536 l)

    pub block_done : length out ≤ block_limit → {j : List ℕ}
        → j ≡ list_of (λ (k : ℕ). read_byte x (load_call i).state v w s ((index + k) % 65536)) (length out)
        → stored 0 j ≡ block_entry x i v w s out index
    unfolding block_entry
    block_done l f =
        rw (ap (λ (r : Given). r.number) (sym (done_byte_read x i v w s e z index refl)), le-leb (length out) 65536 l)
        (ap (stored 0)
        (f ∙ same_list _ _ (λ k. ap (λ (r : Given). r.value) (done_byte_read x i v w s e z ((index + k) % 65536) refl)) (length out)))
