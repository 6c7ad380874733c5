-- What is promised of the save log beside the contracts of its calls: `laws_hold` has these as its contract.
use Rattle.std.specs.Prelude.{true, ◌≡◌, List, [], ◌∷◌, ◌++◌, ℕ, Result, ◌+◌, ◌*◌, ◌/◌, ◌%◌, ◌≤◌, ◌<◌, length, take}
use Rattle.numbers.specs.Numbers.{done}
use Rattle.numbers.specs.One.{OnlyOne}
use Rattle.numbers.specs.Refusal.{number_given}
use Rattle.numbers.specs.declared.Refusal.{Refusal}
use Rattle.savelog.specs.Log.{Four, width, address_end, record_bytes, stored, records, all_sound, apply_all, save_lengths, log_limit, one_of, outcome, recovery, Recovers, appended, Appends, recover_all, joined, cut_copies}

-- Document 01, corner 12, as document 02 has it: address 1234, value 56 gives the bytes 84 8D 15 80.
abbrev pub Corner : Type 0
Corner = record_bytes Four 0x1234 0x56 ≡ 0x84 ∷ 0x8D ∷ 0x15 ∷ 0x80 ∷ []

-- An append keeps the used bytes and adds exactly its own record to theirs.
abbrev pub AppendLaw : Type 0
AppendLaw =
    (log : List ℕ) (used address value : ℕ)
    → used % width ≡ 0
    → used + width ≤ length log
    → address < address_end
    → value < 256
    → (take used (appended log used address value) ≡ take used log)
    × (records (take (used + width) (appended log used address value)) ≡ records (take used log) ++ stored address value ∷ [])

-- Of a log that recovers, the first n bytes recover too, and give the save right after their last whole record.
abbrev pub PrefixLaw : Type 0
PrefixLaw =
    (save log : List ℕ) (n : ℕ)
    → (recovery save log).number ≡ done
    → recovery save (take n log) ≡ outcome done (apply_all save (take (n / width) (records log)))

-- "Recovery ignores up to three" last bytes: the whole records alone give the same, number and save.
abbrev pub LastIgnored : Type 0
LastIgnored = (save log : List ℕ) → length log ≤ log_limit → recovery save (take (length log / width * width) log) ≡ recovery save log

-- A copy of a used log: whole records, all sound for a save of `ram` bytes, and no more bytes than recovery takes.
pub record Copy (ram : ℕ) (copy : List ℕ) : Type 0 where
  pub whole : length copy % width ≡ 0
  pub short : length copy ≤ log_limit
  pub sound : all_sound ram (records copy) ≡ true

pub data Copies (ram : ℕ) : List (List ℕ) → Type 0 where
  none : Copies ram []
  more : {c : List ℕ} {cs : List (List ℕ)} → Copy ram c → Copies ram cs → Copies ram (c ∷ cs)

-- Where the copies are cut after any n bytes of them all, recovery copy by copy gives the save right after the last whole record that is left,
-- as if the copies were one log of any length.
abbrev pub CopiesLaw : Type 0
CopiesLaw =
    (save : List ℕ) (copies : List (List ℕ)) (n : ℕ)
    → one_of (length save) save_lengths ≡ true
    → Copies (length save) copies
    → (joined (cut_copies n copies) ≡ take n (joined copies))
    × (recover_all save (cut_copies n copies) ≡ apply_all save (take (n / width) (records (joined copies))))

-- no second outcome fits
abbrev pub OneRecovery : Type 0
OneRecovery = (save log : List ℕ) → OnlyOne (Recovers save log)

-- nor a second answer, as `recover` gives it
abbrev pub OneRecovered : Type 0
OneRecovered = (save log : List ℕ) → OnlyOne (λ (r : Result (Unit {0}) Refusal). Recovers save log (number_given r))

abbrev pub OneAppend : Type 0
OneAppend = (log : List ℕ) (used address value : ℕ) → OnlyOne (Appends log used address value)
