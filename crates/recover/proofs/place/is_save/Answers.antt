-- No log changes nothing, and refuses nothing but a length.
use mathlib.Core.Bool.{Bool, true, false, cond, ◌&&◌}
use mathlib.Core.List.{List, []}
use mathlib.Core.Path.{◌≡◌, refl, ap, sym, ◌∙◌}
use Prim.Native.Nat.{ℕ}
use lib.Dec.{eqb}
use lib.ListN.{length}
use Rattle.std.specs.Prelude.{Result, Ok, Err}
use Rattle.std.specs.Result.{is_ok}
use Rattle.numbers.specs.Numbers.{done, wrong_length}
use Rattle.numbers.specs.Refusal.{number_given, refusal_number}
use Rattle.numbers.specs.declared.Refusal.{Refusal}
use Rattle.numbers.proofs.Passed.{refuses}
use native.Mathlib.Omega.{arith}
use borrow.Author.Tests.{ne_eqb}
use Rattle.savelog.specs.Log.{Outcome, outcome, recovery, lengths_fit, one_of, save_lengths, records_by, first_records, all_sound, apply_all}
use Rattle.recover.proofs.place.is_save.Goals as goal

by_length : (b : Bool) (save : List ℕ) → cond (b && true) (outcome done save) (outcome wrong_length save) ≡ outcome (cond b done wrong_length) save
by_length true save = refl
by_length false save = refl

is_done : (b : Bool) → eqb (cond b done wrong_length) done ≡ b
is_done true = refl
is_done false = refl

no_log : (save : List ℕ) → recovery save [] ≡ outcome (cond (one_of (length save) save_lengths) done wrong_length) save
unfolding recovery lengths_fit records_by first_records all_sound apply_all
no_log save = by_length (one_of (length save) save_lengths) save

-- a call that is not refused gives 0, and no other
ok_done : {U : Type 0} (r : Result U Refusal) → is_ok r ≡ eqb (number_given r) done
ok_done (Ok _) = refl
ok_done (Err e) = sym (ne_eqb (refusal_number e) done (λ z. omega (arith, z, refuses e)))

pub asked : (r : Result (Unit {0}) Refusal) (after save : List ℕ) → outcome (number_given r) after ≡ recovery save [] → (is_ok r ≡ one_of (length save) save_lengths) × (after ≡ save)
asked r after save e =
    let f : outcome (number_given r) after ≡ outcome (cond (one_of (length save) save_lengths) done wrong_length) save = e ∙ no_log save in
    (ok_done r ∙ ap (λ (o : Outcome). eqb o.number done) f ∙ is_done (one_of (length save) save_lengths), ap (λ (o : Outcome). o.save) f)

pub returns : goal.returns
returns c = let t = asked _ _ _ c.recover.ensures in (c.is_ok.ensures.value ∙ t.0, t.1)
