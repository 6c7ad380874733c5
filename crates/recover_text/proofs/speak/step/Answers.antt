-- Each branch is a case of the step.
use mathlib.Core.Path.{sym, ap}
use native.Mathlib.Omega.{arith}
use Rattle.recover_text.specs.Place.{place_number}
use Rattle.recover_text.proofs.Hearing.{gap_text, gap_before, gap_behind, word_place, word_text, word_behind, not_before, not_behind}
use Rattle.recover_text.proofs.Pieces.{puts_none, puts_as}
use Rattle.recover_text.proofs.speak.step.Goals as goal

pub returns-in-Before : goal.returns-in-Before
returns-in-Before c = let e = sym c.if-not-in_word.ensures in
    (puts_as (gap_text _ _ e) (puts_none _ (omega arith)), gap_before _ _ e (ap place_number c.in-Before.is))

pub returns-in-Inside : goal.returns-in-Inside
returns-in-Inside c = let e = sym c.if-not-in_word.ensures in
    (puts_as (gap_text _ _ e) (puts_none _ (omega arith)), gap_behind _ _ e (not_before _ c.in-Inside.is))

pub returns-in-Before-place : goal.returns-in-Before-place
returns-in-Before-place c = let e = sym c.if-not-in_word.ensures in
    (puts_as (word_text _ _ e (not_behind _ c.in-Before-place.is)) c.byte.ensures, word_place _ _ e)

pub returns-in-Behind : goal.returns-in-Behind
returns-in-Behind c = let e = sym c.if-not-in_word.ensures in
    (puts_as (word_behind _ _ e (ap place_number c.in-Behind.is)) c.text.ensures, word_place _ _ e)
