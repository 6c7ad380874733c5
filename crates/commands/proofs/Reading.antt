-- A number is read a character at a time: what the characters from i on say, after digits that wrote n.
use Rattle.std.proofs.Common.{◌≡◌, ℕ, ◌+◌, ◌*◌, ◌≤◌, ◌<◌, Bool, true, false, cond, List, Option, Some, None, length, drop, get_or, sym, ◌∙◌, add-one, drop-cons, arith, lt-ltb, le-ltb, ltb}
use borrow.Author.Tests.{le-leb, lt-leb}
use lib.Seq.{drop-length}
use Rattle.lines.specs.Text.{digit_of, digit_in}
use Rattle.commands.specs.Walk.{number_from}

-- what a character is
by_test : (n : ℕ) (d : Option ℕ) → d ≡ cond (ltb n 16) (Some n) None → (m : ℕ) → d ≡ Some m → m ≡ n
by_test n d e m f = by (ltb n 16) (sym f ∙ e) where
  by : (b : Bool) → Some m ≡ cond b (Some n) None → m ≡ n
  by true g = cc
  by false g = absurd cc

pub digit_some : (c m : ℕ) (d : Option ℕ) → d ≡ digit_in c → d ≡ Some m → m ≡ digit_of c
unfolding digit_in
digit_some c m d e f = by_test (digit_of c) d e m f

pub digit_none : (c : ℕ) (d : Option ℕ) → d ≡ digit_in c → d ≡ None → 16 ≤ digit_of c
unfolding digit_in
digit_none c d e f = grind (arith, sym f ∙ e)

module _ (base limit n : ℕ) (s : List ℕ) (i : ℕ) (inside : i < length s) (d : ℕ) (e : d ≡ digit_of (get_or s i 0)) where
  pub next_digit : d < base → n * base + d ≤ limit
      → number_from base limit n (drop i s) ≡ number_from base limit (n * base + d) (drop (i + 1) s)
  unfolding number_from
  next_digit h l = rw (e, add-one i, drop-cons s i 0 inside, ← e, lt-ltb d base h, le-leb (n * base + d) limit l)

  pub no_digit : base ≤ d → number_from base limit n (drop i s) ≡ None
  unfolding number_from
  no_digit h = rw (drop-cons s i 0 inside, ← e, le-ltb d base h)

  pub above : d < base → limit < n * base + d → number_from base limit n (drop i s) ≡ None
  unfolding number_from
  above h l = rw (drop-cons s i 0 inside, ← e, lt-ltb d base h, lt-leb (n * base + d) limit l)

pub number_ends : (base limit n : ℕ) (s : List ℕ) (i : ℕ) → i ≡ length s → number_from base limit n (drop i s) ≡ Some n
unfolding number_from
number_ends base limit n s i e = rw (e, drop-length s)
