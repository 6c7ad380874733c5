-- Lists of bytes with line feeds: what a search for one shows, and what the lines of a list are.
use Rattle.std.proofs.Common.{◌≡◌, ℕ, zero, suc, ◌+◌, ◌-◌, ◌<◌, ◌≤◌, Bool, true, false, cond, eqb, List, [], ◌∷◌, ◌++◌, length, get_or, take, drop, set, sym, refl, ap, ◌∙◌, add-one, arith, length-drop, length-take-le, get_or-drop, take-suc, drop-drop, take-suc-set, drop-set-lt, eqb-true, eq-eqb, ne_eqb, Some, None}
use Rattle.std.proofs.lemmas.List.{drop-take}
use Rattle.rules.proofs.Tests.{untrue}
use Rattle.memchr.specs.Find.{is_byte, IsFirstByte}
use Rattle.lines.specs.Reader.{begun, lines_of, fed, part}

-- a part of a part's bytes
pub part_drop : (l : List ℕ) (from to : ℕ) → from ≤ to → drop from (take to l) ≡ part from to l
part_drop l from to h = let e : to ≡ from + (to - from) = omega arith in ap (λ (n : ℕ). drop from (take n l)) e ∙ drop-take from (to - from) l

pub length_part : (l : List ℕ) (from to : ℕ) → from ≤ to → to ≤ length l → length (part from to l) ≡ to - from
length_part l from to h k = length-take-le (to - from) (drop from l) (omega (arith, length-drop from l))

-- what stands before the first line feed holds none, and the rest stands behind it
abbrev pub Cuts : List ℕ → ℕ → Type 0
Cuts s k = (s ≡ take k s ++ (10 ∷ drop (suc k) s)) × (fed (take k s) ≡ false)

cuts_next : (c : ℕ) (s : List ℕ) (k : ℕ) → eqb c 10 ≡ false → Cuts s k → Cuts (c ∷ s) (suc k)
unfolding fed
cuts_next c s k e p = (ap (λ (l : List ℕ). c ∷ l) p.0, rw e p.1)

-- where the first line feed is at k
cuts_at : (s : List ℕ) (k : ℕ) → k < length s → get_or s k 0 ≡ 10 → ((j : ℕ) → j < k → get_or s j 0 ≡ 10 → ⊥) → Cuts s k
unfolding fed
cuts_at [] k h e n = absurd (omega arith)
cuts_at (c ∷ s) zero h e n = (ap (λ (m : ℕ). m ∷ s) e, refl)
cuts_at (c ∷ s) (suc k) h e n = cuts_next c s k (ne_eqb c 10 (n 0 (omega arith))) (cuts_at s k (omega arith) e (λ j l. n (suc j) (omega arith)))

clear_all : (s : List ℕ) → ((j : ℕ) → j < length s → get_or s j 0 ≡ 10 → ⊥) → fed s ≡ false
unfolding fed
clear_all [] n = refl
clear_all (c ∷ s) n = rw (ne_eqb c 10 (n 0 (omega arith))) (clear_all s (λ j l. n (suc j) (omega arith)))

-- what a search for a line feed shows
pub cuts : (s : List ℕ) (k : ℕ) → IsFirstByte (is_byte 10) s (Some k) → (k < length s) × Cuts s k
cuts s k f = (f.0.high, cuts_at s k f.0.high (eqb-true _ _ f.1) (λ j l e. f.0.before j (omega arith) l (eq-eqb _ _ e)))

-- where none is found there is none
pub clear : (s : List ℕ) → IsFirstByte (is_byte 10) s None → fed s ≡ false
clear s f = clear_all s (λ j l e. f j (omega arith) l (eq-eqb _ _ e))

-- The lines

clear_first : (c : ℕ) (s : List ℕ) → fed (c ∷ s) ≡ false → (eqb c 10 ≡ false) × (fed s ≡ false)
unfolding fed
clear_first c s h = by (eqb c 10) refl h where
  by : (b : Bool) → eqb c 10 ≡ b → cond b true (fed s) ≡ false → (eqb c 10 ≡ false) × (fed s ≡ false)
  by true e k = untrue (sym k)
  by false e k = (e, k)

-- a line that a line feed ends
pub lines_cut : (line rest : List ℕ) → fed line ≡ false → lines_of (line ++ (10 ∷ rest)) ≡ line ∷ lines_of rest
unfolding lines_of
lines_cut [] rest h = refl
lines_cut (c ∷ line) rest h = rw ((clear_first c line h).0, lines_cut line rest (clear_first c line h).1)

-- bytes before the first line
abbrev pub before : List ℕ → List (List ℕ) → List (List ℕ)
before d [] = d ∷ []
before d (line ∷ rest) = (d ++ line) ∷ rest

before_more : (c : ℕ) (d : List ℕ) (ls : List (List ℕ)) → begun c (before d ls) ≡ before (c ∷ d) ls
before_more c d [] = refl
before_more c d (line ∷ rest) = refl

before_one : (c : ℕ) (ls : List (List ℕ)) → begun c ls ≡ before (c ∷ []) ls
before_one c [] = refl
before_one c (line ∷ rest) = refl

-- bytes without a line feed begin the first line
pub lines_before : (d s : List ℕ) → fed d ≡ false → 0 < length d → lines_of (d ++ s) ≡ before d (lines_of s)
unfolding lines_of
lines_before [] s h k = absurd (omega arith)
lines_before (c ∷ []) s h k = rw (clear_first c [] h).0 (before_one c (lines_of s))
lines_before (c ∷ e ∷ d) s h k =
    rw ((clear_first c (e ∷ d) h).0, lines_before (e ∷ d) s (clear_first c (e ∷ d) h).1 (omega arith))
    (before_more c (e ∷ d) (lines_of s))

-- Moving bytes down

module _ (l m : List ℕ) (from i : ℕ) (inside : from + i < length l) (same : length m ≡ length l)
    (moved : take i m ≡ take i (drop from l)) (rest : drop (from + i) m ≡ drop (from + i) l) where
  there : get_or m (from + i) 0 ≡ get_or (drop from l) i 0
  there =
      let e : from + i + 0 ≡ from + i = omega arith in
      ap (λ (n : ℕ). get_or m n 0) (sym e)
      ∙ (sym (get_or-drop (from + i) m 0 0)
      ∙ (ap (λ (k : List ℕ). get_or k 0 0) rest
      ∙ (get_or-drop (from + i) l 0 0
      ∙ (ap (λ (n : ℕ). get_or l n 0) e
      ∙ sym (get_or-drop from l i 0)))))

  pub moved_next : take (i + 1) (set m i (get_or m (from + i) 0)) ≡ take (i + 1) (drop from l)
  moved_next =
      rw (
        add-one i,
        take-suc-set m i (get_or m (from + i) 0) (omega arith),
        moved,
        there,
        take-suc (drop from l) i 0 (omega (arith, length-drop from l)),
      )

  pub rest_next : drop (from + (i + 1)) (set m i (get_or m (from + i) 0)) ≡ drop (from + (i + 1)) l
  rest_next =
      let e : from + (i + 1) ≡ from + i + 1 = omega arith in
      rw e (
      drop-set-lt (from + i + 1) m i (get_or m (from + i) 0) (omega arith)
      ∙ (sym (drop-drop 1 (from + i) m) ∙ (ap (drop 1) rest ∙ drop-drop 1 (from + i) l))
      )
