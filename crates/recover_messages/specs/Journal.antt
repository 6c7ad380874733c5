-- A journal's records, behind its mark: how much of them was written (c/pouch_bus.h, pouch_journal_len), and which is damaged first. Each by the form of the records:
-- journals of versions before 3.0 have those of three bytes, and no mark.
use Rattle.std.specs.Prelude.{true, cond, List, [], ◌∷◌, ◌++◌, ◌≡◌, ℕ, suc, ◌+◌, ◌-◌, ◌*◌, ◌/◌, ◌%◌, ◌≤◌, ◌<◌, ltb, eqb, length, get_or, take}
use Rattle.numbers.specs.Numbers.{done, wrong_length, damaged}
use Rattle.savelog.specs.Log.{width_of, records_by, sound_record, all_sound, apply_all, save_limit, log_limit, lengths_fit, Outcome, outcome, recovery}
use Rattle.savelog.specs.declared.Form.{Form}
use Rattle.savelog.specs.declared.Form.TheVariants.{Three, Four}
use Rattle.savelog.specs.Convert.{length_by, old_recovery}
use Rattle.savelog.specs.declared.Rec.{Rec}
use Rattle.recover_messages.specs.declared.journal.Scan.{Scan}

-- Where the last byte that is not 0 ends.
unfoldable pub end_of : List ℕ → ℕ
end_of [] = 0
end_of (b ∷ bs) = cond (eqb (end_of bs) 0) (cond (eqb b 0) 0 1) (suc (end_of bs))

-- No record begins with a 0: where one would, the zeros go, and so does a record before them that ends in 0, as its last bytes may be such zeros too.
unfoldable pub kept : Form → ℕ → ℕ → ℕ
kept f len end = cond (ltb ((end + width_of f - 1) / width_of f * width_of f) len) (end / width_of f * width_of f) len

abbrev pub journal_length : Form → List ℕ → ℕ
journal_length f j = kept f (length j) (end_of j)

-- What that is for: no record of zeros alone is kept; and what goes begins where a record does, with less than one record that is not zeros.
abbrev pub KeptLaw : Type 0
KeptLaw =
    (f : Form) (j : List ℕ)
    → (journal_length f j ≤ length j)
    × ((i : ℕ) → i * width_of f + width_of f ≤ journal_length f j → i * width_of f < end_of j)
    × (journal_length f j < length j
    → (journal_length f j % width_of f ≡ 0) × (journal_length f j ≤ end_of j) × (end_of j < journal_length f j + width_of f))

-- The scan: how many bytes, and where the last one that is not 0 ends; byte by byte, so in parts too.
abbrev pub scan : ℕ → ℕ → Scan
scan l e = record { len = l; end = e }

abbrev pub unread : Scan
unread = scan 0 0

unfoldable pub byte_scanned : Scan → ℕ → Scan
byte_scanned s b = scan (s.len + 1) (cond (eqb b 0) s.end (s.len + 1))

unfoldable pub scanned : Scan → List ℕ → Scan
scanned s [] = s
scanned s (b ∷ bs) = scanned (byte_scanned s b) bs

-- how much of the journal is kept
abbrev pub kept_of : Form → Scan → ℕ
kept_of f s = kept f s.len s.end

-- what a scan is known to be, and how long a journal may be before its last part: a slice's length fits behind it
abbrev pub journal_limit : ℕ
journal_limit = 4611686018427387904

abbrev pub Bounded : Scan → Type 0
Bounded s = s.end ≤ s.len

-- parts one after the other are the whole
abbrev pub PartsLaw : Type 0
PartsLaw = (s : Scan) (a b : List ℕ) → scanned s (a ++ b) ≡ scanned (scanned s a) b

-- and of the whole the scan is its length and its end
abbrev pub WholeLaw : Type 0
WholeLaw = (j : List ℕ) → scanned unread j ≡ scan (length j) (end_of j)

-- behind the end there are zeros alone, and the byte before it is none
abbrev pub ZerosLaw : Type 0
ZerosLaw =
    (j : List ℕ)
    → ((i : ℕ) → end_of j ≤ i → get_or j i 0 ≡ 0)
    × (0 < end_of j → get_or j (end_of j - 1) 0 ≡ 0 → ⊥)

-- how many records stand before the first damaged one; all of them, where none is
unfoldable pub sound_first : ℕ → List Rec → ℕ
sound_first ram [] = 0
sound_first ram (r ∷ rs) = cond (sound_record ram r) (suc (sound_first ram rs)) 0

-- Recovery by the records of a form: as `recovery`, where a log has as many bytes as its records have in the present form.
unfoldable pub recovery_by : Form → List ℕ → List ℕ → Outcome
recovery_by f save log =
    cond (lengths_fit (length save) (length_by f Four (length log)))
    (cond (all_sound (length save) (records_by f log)) (outcome done (apply_all save (records_by f log))) (outcome damaged save))
    (outcome wrong_length save)

-- so by the present form it is recovery
abbrev pub PresentLaw : Type 0
PresentLaw = (save log : List ℕ) → recovery_by Four save log ≡ recovery save log

-- and by the old form it is document 01's, of any save but one of 131,072 bytes, which that did not know, and a log whose records make one in the present form
abbrev pub OldLaw : Type 0
OldLaw = (save log : List ℕ) → (length save ≡ save_limit → ⊥) → length_by Three Four (length log) ≤ log_limit → recovery_by Three save log ≡ old_recovery save log

-- the most bytes of a part: their whole records make a log in the present form
abbrev pub part_records : ℕ
part_records = 16383

abbrev pub part_limit : Form → ℕ
part_limit f = part_records * width_of f

-- A journal with the scan s was played over a save: of its bytes before `kept` the records of this form are sound, and are applied in order. Which bytes were read
-- no contract can say; that the save is the one that they leave, it can.
pub record Played (f : Form) (kept : ℕ) (s : Scan) (save save' : List ℕ) : Type 0 where
  pub journal : List ℕ
  pub read : scanned unread journal ≡ s
  pub sound : all_sound (length save) (records_by f (take kept journal)) ≡ true
  pub applied : save' ≡ apply_all save (records_by f (take kept journal))

-- one part more of it, from where a record begins: as far as it stands before `kept`, recovery takes it
pub record PlayedPart (f : Form) (kept : ℕ) (s : Scan) (save save' : List ℕ) (r : Scan) : Type 0 where
  pub part : List ℕ
  pub whole : s.len % width_of f ≡ 0
  pub read : scanned s part ≡ r
  pub recovered : outcome done save' ≡ recovery_by f save (take (kept - s.len) part)
