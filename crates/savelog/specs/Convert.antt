-- The converters (document 02, wish 3: "Players have old logs, so we need a converter to the new form and one back"): from one form of a record to the other.
use Rattle.std.specs.Prelude.{Bool, true, cond, ◌&&◌, List, [], ◌∷◌, ◌++◌, ◌≡◌, ℕ, Result, ◌*◌, ◌/◌, leb, ltb, eqb, length, drop}
use Rattle.numbers.specs.Numbers.{done, wrong_length, damaged}
use Rattle.numbers.specs.Refusal.{number_given}
use Rattle.numbers.specs.declared.Refusal.{Refusal}
use Rattle.std.specs.Result.{result_unwrap_or}
use Rattle.savelog.specs.Log.{Form, Three, Rec, width_of, end_of, log_limit, record_bytes, records_by, all_sound, apply_all, one_of, Outcome, outcome}

-- A record is damaged by its own bits: "which tests no RAM length".
unfoldable pub undamaged : List Rec → Bool
undamaged [] = true
undamaged (r ∷ rs) = (eqb r.mark 1 && eqb r.spare 0) && undamaged rs

-- every address is below an end
unfoldable pub below : ℕ → List Rec → Bool
below end [] = true
below end (r ∷ rs) = ltb r.address end && below end rs

-- the records' bytes in a form
unfoldable pub bytes_by : Form → List Rec → List ℕ
bytes_by f [] = []
bytes_by f (r ∷ rs) = record_bytes f r.address r.value ++ bytes_by f rs

-- the bytes that the whole records of `source` bytes take in the other form: "one or two last bytes of an old log, or up to three of a new one, are dropped"
abbrev pub length_by : Form → Form → ℕ → ℕ
length_by from to source = source / width_of from * width_of to

-- "no log exceeds 65,535 bytes", neither the one nor the other; and "a target too short for the whole records is 4"
unfoldable pub room : Form → Form → ℕ → ℕ → Bool
room from to source target =
    leb source log_limit && (leb (length_by from to source) log_limit && leb (length_by from to source) target)

-- What a converter gives: its number, how many bytes of the target are the new log, and the target.
pub record Conversion : Type 0 where
  pub number : ℕ
  pub len : ℕ
  pub target : List ℕ

abbrev pub converted : ℕ → ℕ → List ℕ → Conversion
converted n l t = record { number = n; len = l; target = t }

-- The lengths come first (4), then damage, then an address that the other form has no room for (6); each leaves the target. "Target bytes past the result stay."
unfoldable pub conversion : Form → Form → List ℕ → List ℕ → Conversion
conversion from to source target =
    cond (room from to (length source) (length target))
    (cond (undamaged (records_by from source))
    (cond (below (end_of to) (records_by from source))
    (converted done (length_by from to (length source)) (bytes_by to (records_by from source) ++ drop (length_by from to (length source)) target))
    (converted damaged 0 target))
    (converted damaged 0 target))
    (converted wrong_length 0 target)

-- Document 01's number and value for each case of a converter's answer: how many bytes of the target are the new log; a refusal gives 0
pub record Converted : Type 0 where
  pub number : ℕ
  pub len : ℕ

abbrev pub converted_of : Result ℕ Refusal → Converted
converted_of r = record { number = number_given r; len = result_unwrap_or r 0 }

-- what is promised of a converter: of its result, and of the target as it leaves that
abbrev pub Converts : Form → Form → List ℕ → List ℕ → Converted → List ℕ → Type 0
Converts from to source target r left = converted r.number r.len left ≡ conversion from to source target

-- Recovery by the rule that old logs were made for (document 01): records of three bytes, a save of 0, 512, 8,192 or 32,768 bytes.
unfoldable pub old_save_lengths : List ℕ
old_save_lengths = 0 ∷ 512 ∷ 8192 ∷ 32768 ∷ []

unfoldable pub old_recovery : List ℕ → List ℕ → Outcome
old_recovery save log =
    cond (one_of (length save) old_save_lengths && leb (length log) log_limit)
    (cond (all_sound (length save) (records_by Three log)) (outcome done (apply_all save (records_by Three log))) (outcome damaged save))
    (outcome wrong_length save)
