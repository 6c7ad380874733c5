-- When an answer is the Rust's.
use Rattle.std.specs.Prelude.{◌≡◌, ℕ, Bool, true, List, [], ◌∷◌, Result, Ok, Err, take, refl}
use Rattle.numbers.specs.Numbers.{done, outside}
use Rattle.numbers.specs.declared.Refusal.TheVariants.{Outside}

-- a test is true just where a fact holds
abbrev pub Says : Bool → Type 0 → Type 0
Says r fact = (r ≡ true → fact) × (fact → r ≡ true)

-- `number` is 0 where every call took its input
pub record Ours : Type 0 where
  pub number : ℕ
  pub bytes : List ℕ

-- the calls took their input, and the first n bytes are those of the line
abbrev pub Agrees : Ours → List ℕ → ℕ → Type 0
Agrees ours answer n = (ours.number ≡ done) × (take n ours.bytes ≡ take n answer)

-- what stands for an input that is not one of ours: no call took it
abbrev pub not_ours : Ours
not_ours = record { number = outside; bytes = 0 ∷ 0 ∷ 0 ∷ 0 ∷ 0 ∷ 0 ∷ 0 ∷ 0 ∷ 0 ∷ 0 ∷ 0 ∷ 0 ∷ [] }

-- an answer's number, and its bytes where it has any: no call took what is refused, for whatever reason
abbrev pub ours_of : {E : Type 0} → Result (List ℕ) E → Ours
ours_of (Ok bytes) = record { number = done; bytes = bytes }
ours_of (Err e) = not_ours

pub refused_not_ours : {E : Type 0} (e : E) → ours_of (Err e) ≡ not_ours
refused_not_ours e = refl

pub outside_not_ours : ours_of (Err Outside) ≡ not_ours
outside_not_ours = refused_not_ours Outside
