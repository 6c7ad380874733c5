-- What is promised of the converters beside their contracts: document 02, wish 3, sentence by sentence. `converters_hold` has these as its contract.
use Rattle.std.specs.Prelude.{true, ◌≡◌, List, [], ◌∷◌, ◌++◌, ℕ, Result, ◌*◌, ◌/◌, ◌≤◌, ◌<◌, length, take, drop}
use Rattle.numbers.specs.Numbers.{done}
use Rattle.numbers.specs.One.{OnlyOne}
use Rattle.numbers.specs.declared.Refusal.{Refusal}
use Rattle.savelog.specs.Log.{Form, Three, Four, width_of, log_limit, save_limit, records_by, recovery}
use Rattle.savelog.specs.Convert.{undamaged, below, length_by, converted, conversion, Converts, converted_of, old_recovery}

-- a log's bytes are bytes
pub data Bytes : List ℕ → Type 0 where
  none : Bytes []
  more : {b : ℕ} {bs : List ℕ} → b < 256 → Bytes bs → Bytes (b ∷ bs)

-- the new log of a conversion
abbrev pub new_log : Form → Form → List ℕ → List ℕ → List ℕ
new_log f t log target = take (conversion f t log target).len (conversion f t log target).target

-- Corner 12 of document 01, before and as document 02 has it: 92 34 56 becomes 84 8D 15 80.
abbrev pub OldCorner : Type 0
OldCorner =
    conversion Three Four (0x92 ∷ 0x34 ∷ 0x56 ∷ []) (0 ∷ 0 ∷ 0 ∷ 0 ∷ []) ≡ converted done 4 (0x84 ∷ 0x8D ∷ 0x15 ∷ 0x80 ∷ [])

-- A converted log has the records of the other.
abbrev pub SameRecords : Type 0
SameRecords =
    (f t : Form) (log target : List ℕ) → (conversion f t log target).number ≡ done → records_by t (new_log f t log target) ≡ records_by f log

-- "Given room, old to new to old is the identity on the whole records of undamaged logs of at most 16,383 of them."
abbrev pub ThereAndBack : Type 0
ThereAndBack =
    (old new back : List ℕ)
    → Bytes old
    → undamaged (records_by Three old) ≡ true
    → length old / width_of Three ≤ 16383
    → length_by Three Four (length old) ≤ length new
    → length_by Three Three (length old) ≤ length back
    → ((conversion Three Four old new).number ≡ done)
    × ((conversion Three Four old new).len ≡ length_by Three Four (length old))
    × (conversion Four Three (new_log Three Four old new) back
    ≡ converted done (length_by Three Three (length old)) (take (length_by Three Three (length old)) old ++ drop (length_by Three Three (length old)) back))

-- "An undamaged new log goes to old exactly when every address is below 32,768", given room.
abbrev pub BackExactly : Type 0
BackExactly =
    (new old : List ℕ)
    → length new ≤ log_limit
    → length_by Four Three (length new) ≤ length old
    → undamaged (records_by Four new) ≡ true
    → ((conversion Four Three new old).number ≡ done → below 32768 (records_by Four new) ≡ true)
    × (below 32768 (records_by Four new) ≡ true → (conversion Four Three new old).number ≡ done)

-- "One or two last bytes of an old log, or up to three of a new one, are dropped": the whole records alone give the same.
abbrev pub LastDropped : Type 0
LastDropped =
    (f t : Form) (log target : List ℕ)
    → length log ≤ log_limit
    → conversion f t (take (length_by f f (length log)) log) target ≡ conversion f t log target

-- A log that is too long to be converted at once is converted in parts: the parts' records are the log's.
abbrev pub InParts : Type 0
InParts =
    (f : Form) (log : List ℕ) (k : ℕ)
    → k * width_of f ≤ length log
    → records_by f (take (k * width_of f) log) ++ records_by f (drop (k * width_of f) log) ≡ records_by f log

-- "Target bytes past the result stay"; and a refusal changes nothing, and writes no byte.
abbrev pub PastStays : Type 0
PastStays =
    (f t : Form) (log target : List ℕ)
    → (length (conversion f t log target).target ≡ length target)
    × (drop (conversion f t log target).len (conversion f t log target).target ≡ drop (conversion f t log target).len target)
    × (((conversion f t log target).number ≡ done → ⊥) → ((conversion f t log target).len ≡ 0) × ((conversion f t log target).target ≡ target))

-- Recovery of a converted log over a save is recovery of the old one by the old rule, its number too. The old rule knew no save of 131,072 bytes.
abbrev pub RecoversAsBefore : Type 0
RecoversAsBefore =
    (save old new : List ℕ)
    → (length save ≡ save_limit → ⊥)
    → (conversion Three Four old new).number ≡ done
    → recovery save (new_log Three Four old new) ≡ old_recovery save old

-- no second outcome fits
abbrev pub OneConversion : Type 0
OneConversion = (f t : Form) (log target : List ℕ) → OnlyOne (Converts f t log target)

-- nor a second answer, as the converters give it
abbrev pub OneConverted : Type 0
OneConverted = (f t : Form) (log target : List ℕ) → OnlyOne (λ (r : Result ℕ Refusal). Converts f t log target (converted_of r))
