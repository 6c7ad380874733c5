-- What the messages tell: the lengths of a save, what is left out at a journal's end, and the first damaged record of a part.
use mathlib.Core.Path.{◌≡◌, refl}
use mathlib.Core.List.{List, [], ◌∷◌, ◌++◌}
use Prim.Native.Nat.{ℕ, ◌+◌, ◌-◌, ◌*◌, ◌/◌, ◌%◌, ◌≤◌, ◌<◌}
use native.Mathlib.Omega.{arith}
use lib.ListN.{length, take, drop, length-append, length-drop}
use lib.Seq.{length-take-le}
use borrow.Author.Tests.{lt-ltb, le-ltb, eq-eqb, ne_eqb}
use Rattle.savelog.specs.Log.{width_of, records_by, save_lengths}
use Rattle.savelog.specs.declared.Form.{Form}
use Rattle.recover_text.specs.Text.{decimal_within, counted}
use Rattle.recover_text.proofs.Digits.{counted_length}
use Rattle.recover_messages.specs.Journal.{kept_of, sound_first}
use Rattle.recover_messages.specs.declared.journal.Scan.{Scan}
use Rattle.recover_messages.specs.Words as words
use Rattle.recover_messages.specs.Messages.{sized, left_out_line, end_line, torn_mark_line, choice, damaged_line, damage_line}

-- "; a save has 0, 512, 8192, 32768 or 131072\n"
abbrev save_words : List ℕ
save_words = 59 ∷ 32 ∷ 97 ∷ 32 ∷ 115 ∷ 97 ∷ 118 ∷ 101 ∷ 32 ∷ 104 ∷ 97 ∷ 115 ∷ 32 ∷ 48 ∷ 44 ∷ 32 ∷ 53 ∷ 49 ∷ 50 ∷ 44 ∷ 32 ∷ 56 ∷ 49 ∷ 57 ∷ 50 ∷ 44 ∷ 32 ∷ 51 ∷ 50 ∷ 55 ∷ 54 ∷ 56 ∷ 32 ∷ 111 ∷ 114 ∷ 32 ∷ 49 ∷ 51 ∷ 49 ∷ 48 ∷ 55 ∷ 50 ∷ 10 ∷ []

pub expected : save_words ≡ words.a_save_has ++ (choice save_lengths ++ words.line_end)
unfolding choice save_lengths decimal_within
expected = refl

-- a number of bytes between two texts has 26 bytes at most
pub sized_length : (a : List ℕ) (n : ℕ) (b : List ℕ) → length (sized a n b) ≤ length a + 26 + length b
sized_length a n b = rw (length-append a, length-append (counted n words.byte_noun)) (omega (arith, counted_length n words.byte_noun))

-- what is left out at the end
module _ (name : List ℕ) (f : Form) (before : ℕ) (s : Scan) (k : ℕ) (e : k ≡ kept_of f s) where
  pub ends_in_zeros : k < s.len → left_out_line name words.zeros (s.len - k) (before + s.len) ≡ end_line name f before s
  unfolding end_line
  ends_in_zeros h = rw (← e, lt-ltb k s.len h)

  pub ends_whole : s.len ≤ k → {r : ℕ} → r ≡ s.len % width_of f → r ≡ 0 → [] ≡ end_line name f before s
  unfolding end_line
  ends_whole h q z = rw (← e, le-ltb k s.len h, ← q, eq-eqb _ 0 z)

  pub ends_torn : s.len ≤ k → {r : ℕ} → r ≡ s.len % width_of f → (r ≡ 0 → ⊥) → left_out_line name words.torn r (before + s.len) ≡ end_line name f before s
  unfolding end_line
  ends_torn h q z = rw (← e, le-ltb k s.len h, ← q, ne_eqb _ 0 z)

-- a torn mark
pub empty_file : (name : List ℕ) (len : ℕ) → len ≡ 0 → [] ≡ torn_mark_line name len
unfolding torn_mark_line
empty_file name len e = rw (eq-eqb len 0 e)

pub mark_torn : (name : List ℕ) (len : ℕ) → (len ≡ 0 → ⊥) → left_out_line name words.torn_mark len len ≡ torn_mark_line name len
unfolding torn_mark_line
mark_torn name len e = rw (ne_eqb len 0 e)

module _ (name : List ℕ) (f : Form) (len : ℕ) (s : Scan) (part : List ℕ) (ram : ℕ) where
  pub no_damage : length (records_by f part) ≤ sound_first ram (records_by f part) → [] ≡ damage_line name f len s part ram
  unfolding damage_line
  no_damage h = rw (le-ltb (sound_first ram (records_by f part)) (length (records_by f part)) h)

  -- the record behind n sound ones, by the numbers that the code has worked out
  module _ (n from to w : ℕ) (a : from ≡ n * width_of f) (b : w ≡ width_of f) (c : to ≡ from + w) where
    span : to - from ≡ width_of f
    span = omega arith

    pub record_length : to ≤ length part → length (take (to - from) (drop from part)) ≡ width_of f
    record_length h =
        let d = length-drop from part in
        rw span (length-take-le (width_of f) (drop from part) (omega (arith, a, b, c)))

    pub first_damage : (m : ℕ) → m ≡ s.len / width_of f → n ≡ sound_first ram (records_by f part) → n < length (records_by f part)
        → damaged_line name len (m + n) ram (take (to - from) (drop from part)) ≡ damage_line name f len s part ram
    unfolding damage_line
    first_damage m g q h = rw (span, a, g, ← q, lt-ltb n (length (records_by f part)) h)
