-- No second outcome: by the law of crate numbers.
use Rattle.std.proofs.Common.{◌≡◌, cond, eqb, ne_eqb, arith, refl, Result, Ok, Err}
use Rattle.bus.specs.Calls.{Outcome}
use Rattle.bus.proofs.One.{memories}
use Rattle.memory.specs.World.{World}
use Rattle.numbers.proofs.One.{only_one, answered, answered_back}
use Rattle.numbers.proofs.Passed as passed
use Rattle.numbers.specs.One.{OnlyOne}
use Rattle.numbers.specs.Refusal.{refusal_number}
use Rattle.numbers.specs.declared.Owed.TheVariants.{Nothing, Sound}
use Rattle.numbers.specs.declared.Refusal.{Refusal}
use Rattle.write_calls.specs.Writes.{OneWritten, left_by}
use Rattle.write_calls.specs.declared.Wrote.{Wrote}

-- the answer is found in what is left
abbrev answer : Outcome → Result Wrote Refusal
answer o =
    cond (eqb o.number 1) (Ok (record { memory = o.after.state; owed = Sound }))
    (answered o.number (record { memory = o.after.state; owed = Nothing }))

back : (w : World) (r : Result Wrote Refusal) (b : _) → answer (left_by w r b) ≡ r
back w (Ok r) b = by_owed r.owed
  where
    by_owed : (o : _) → answer (left_by w (Ok (record { memory = r.memory; owed = o })) b) ≡ Ok (record { memory = r.memory; owed = o })
    by_owed Nothing = answered_back (Ok (record { memory = r.memory; owed = Nothing })) r
    by_owed Sound = refl
back w (Err e) b = rw (ne_eqb (refusal_number e) 1 (λ k. omega (arith, passed.refuses e, k))) (answered_back (Err e) _)

left : (w : World) (r : Result Wrote Refusal) (b : _) → memories (left_by w r b) ≡ b
left w (Ok r) b = refl
left w (Err e) b = refl

-- of one world and one outcome; each contract hands over what it says of a result and of the memories
one : (w : World) (o : Outcome) → OnlyOne (λ r b. left_by w r b ≡ o)
one w o = only_one (left_by w) answer memories (back w) (left w) o

pub one_written : OneWritten
one_written =
    record {
      bytes = λ x w i v p q a b e f. one w _ p q _ _ e f;
      words = λ x w i v p q a b e f. one w _ p q _ _ e f;
    }
