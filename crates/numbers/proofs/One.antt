-- No second outcome, of a contract that says what a result and the memories make: each is found in what they make.
use Rattle.std.proofs.Common.{◌≡◌, ℕ, cond, eqb, ap, sym, refl, ◌∙◌, Result, Ok, Err}
use Rattle.std.specs.Result.{result_unwrap_or}
use Rattle.numbers.specs.One.{OnlyOne, OneAnswer}
use Rattle.numbers.specs.Refusal.{number_given}
use Rattle.numbers.specs.declared.Refusal.{Refusal}
use Rattle.numbers.specs.declared.Refusal.TheVariants.{NoRoom, OutOfRange, WrongLength, TooManyCycles, Damaged, Outside}

pub only_one : {R B O : Type 0} (made : R → B → O) (result : O → R) (left : O → B)
    → ((r : R) (b : B) → result (made r b) ≡ r)
    → ((r : R) (b : B) → left (made r b) ≡ b)
    → (o : O)
    → OnlyOne (λ (r : R) (b : B). made r b ≡ o)
only_one made result left back kept o p q a b e f =
    let s = e ∙ sym f in
    (sym (back p a) ∙ ap result s ∙ back q b, sym (kept p a) ∙ ap left s ∙ kept q b)

-- and of one that speaks of a part of the result, by which two results are told apart
pub only_told : {R S B : Type 0} {says : S → B → Type 0} (part : R → S)
    → ((p q : R) → part p ≡ part q → p ≡ q)
    → OnlyOne says
    → OnlyOne (λ (r : R) (b : B). says (part r) b)
only_told part told one p q a b e f = let both = one (part p) (part q) a b e f in (told p q both.0, both.1)

-- an answer is found in its number and what it gives
refusal_of : ℕ → Refusal
refusal_of n =
    cond (eqb n 2) NoRoom (cond (eqb n 3) OutOfRange (cond (eqb n 4) WrongLength (cond (eqb n 5) TooManyCycles (cond (eqb n 6) Damaged Outside))))

pub answered : {T : Type 0} → ℕ → T → Result T Refusal
answered n x = cond (eqb n 0) (Ok x) (Err (refusal_of n))

pub answered_back : {T : Type 0} (r : Result T Refusal) (d : T) → answered (number_given r) (result_unwrap_or r d) ≡ r
unfolding answered refusal_of
answered_back (Ok x) d = refl
answered_back (Err NoRoom) d = refl
answered_back (Err OutOfRange) d = refl
answered_back (Err WrongLength) d = refl
answered_back (Err TooManyCycles) d = refl
answered_back (Err Damaged) d = refl
answered_back (Err Outside) d = refl

told : {T : Type 0} (d : T) (r s : Result T Refusal) → number_given r ≡ number_given s → result_unwrap_or r d ≡ result_unwrap_or s d → r ≡ s
told d r s n v = sym (answered_back r d) ∙ ap (λ k. answered k (result_unwrap_or r d)) n ∙ ap (answered (number_given s)) v ∙ answered_back s d

pub one_answer : OneAnswer
one_answer = record { nothing = λ r s n. told tt r s n refl; length = told }
