-- The save log: what its bytes mean, and what recovery does with them (document 01, "Save log and state image"; the record as document 02, wish 3, has it).
-- The layout of a record stands in `width_of`, `end_of`, `spare_of`, `record_number` and `fields_of` alone, the lengths in `save_lengths` and `log_limit` alone; every other
-- crate names them.
use Rattle.std.specs.Prelude.{Bool, true, false, cond, ◌&&◌, ◌||◌, List, [], ◌∷◌, ◌++◌, ◌≡◌, ℕ, zero, suc, ◌+◌, ◌-◌, ◌*◌, ◌/◌, ◌%◌, leb, ltb, eqb, length, take, drop, set}
use Rattle.numbers.specs.Numbers.{done, wrong_length, damaged}
-- "One record per stored save byte": its mark, its address, its value, and the bits behind it
pub use Rattle.savelog.specs.declared.Rec.{Rec}
pub use Rattle.savelog.specs.declared.Form.{Form}
pub use Rattle.savelog.specs.declared.Form.TheVariants.{Three, Four}

-- Bytes stand most significant first: k bytes of a number, and the number that bytes make.
unfoldable pub bytes_of : ℕ → ℕ → List ℕ
bytes_of zero n = []
bytes_of (suc k) n = bytes_of k (n / 256) ++ n % 256 ∷ []

unfoldable pub number_from : ℕ → List ℕ → ℕ
number_from n [] = n
number_from n (b ∷ bs) = number_from (n * 256 + b) bs

-- Two forms of a record. `Four` is the present one (document 02, wish 3: "four bytes: bit 1, address 17 bits, value 8 bits, six 0 bits"), `Three` the one
-- before it (document 01: "bit 1, address 15 bits, value 8 bits"), which players' old logs have.
-- Of each: its length in bytes, where its addresses end, and what the 0 bits behind its value count up to; of the present one also by names of their own.
abbrev pub width : ℕ
width = 4

abbrev pub address_end : ℕ
address_end = 131072

abbrev pub spare_end : ℕ
spare_end = 64

abbrev pub width_of : Form → ℕ
width_of Three = 3
width_of Four = width

abbrev pub end_of : Form → ℕ
end_of Three = 32768
end_of Four = address_end

abbrev pub spare_of : Form → ℕ
spare_of Three = 1
spare_of Four = spare_end

-- "most significant bit first": the bit, the address, the value, the 0 bits
unfoldable pub record_number : Form → ℕ → ℕ → ℕ
record_number f address value = ((1 * end_of f + address) * 256 + value) * spare_of f

unfoldable pub record_bytes : Form → ℕ → ℕ → List ℕ
record_bytes f address value = bytes_of (width_of f) (record_number f address value)

-- the fields of that number, read back
unfoldable pub fields_of : Form → ℕ → Rec
fields_of f n =
    record {
      mark = n / spare_of f / 256 / end_of f;
      address = n / spare_of f / 256 % end_of f;
      value = n / spare_of f % 256;
      spare = n % spare_of f;
    }

abbrev pub record_of : Form → List ℕ → Rec
record_of f bytes = fields_of f (number_from 0 bytes)

-- the record of a store that is not damaged
abbrev pub stored : ℕ → ℕ → Rec
stored address value = record { mark = 1; address = address; value = value; spare = 0 }

-- The first k records, and "whole records in order": what is left at the end is ignored.
unfoldable pub first_records : Form → ℕ → List ℕ → List Rec
first_records f zero log = []
first_records f (suc k) log = record_of f (take (width_of f) log) ∷ first_records f k (drop (width_of f) log)

unfoldable pub records_by : Form → List ℕ → List Rec
records_by f log = first_records f (length log / width_of f) log

abbrev pub records : List ℕ → List Rec
records log = records_by Four log

-- "A record is damaged if its first bit is 0 or its address is not below the RAM length", and one "whose last six bits aren't all 0 is damaged too": sound
-- is the opposite.
abbrev pub sound_record : ℕ → Rec → Bool
sound_record ram r = eqb r.mark 1 && (eqb r.spare 0 && ltb r.address ram)

unfoldable pub all_sound : ℕ → List Rec → Bool
all_sound ram [] = true
all_sound ram (r ∷ rs) = sound_record ram r && all_sound ram rs

-- "applies whole records in order"
unfoldable pub apply_all : List ℕ → List Rec → List ℕ
apply_all save [] = save
apply_all save (r ∷ rs) = apply_all (set save r.address r.value) rs

-- "Recovery takes a save of 0, 512, 8,192 or 32,768 bytes and a log of 0 to 65,535 bytes", and "also takes a save of 131,072 bytes"
abbrev pub save_limit : ℕ
save_limit = 131072

unfoldable pub save_lengths : List ℕ
save_lengths = 0 ∷ 512 ∷ 8192 ∷ 32768 ∷ save_limit ∷ []

abbrev pub log_limit : ℕ
log_limit = 65535

unfoldable pub one_of : ℕ → List ℕ → Bool
one_of n [] = false
one_of n (k ∷ ks) = eqb n k || one_of n ks

unfoldable pub lengths_fit : ℕ → ℕ → Bool
lengths_fit save log = one_of save save_lengths && leb log log_limit

-- What recovery gives: its number, and the save as it is then.
pub record Outcome : Type 0 where
  pub number : ℕ
  pub save : List ℕ

abbrev pub outcome : ℕ → List ℕ → Outcome
outcome n s = record { number = n; save = s }

-- The lengths come first (4), then damage (6), each of which leaves the save; document 01, "Numbers a call gives back".
unfoldable pub recovery : List ℕ → List ℕ → Outcome
recovery save log =
    cond (lengths_fit (length save) (length log))
    (cond (all_sound (length save) (records log)) (outcome done (apply_all save (records log))) (outcome damaged save))
    (outcome wrong_length save)

-- what is promised of recovery: of its number, and of the save as it leaves that
abbrev pub Recovers : List ℕ → List ℕ → ℕ → List ℕ → Type 0
Recovers save log n left = outcome n left ≡ recovery save log

-- The log after an append at `used`: what was before and what was behind stays.
unfoldable pub appended : List ℕ → ℕ → ℕ → ℕ → List ℕ
appended log used address value = take used log ++ record_bytes Four address value ++ drop (used + width) log

-- what is promised of an append: of the next use, and of the log as it is left
abbrev pub Appends : List ℕ → ℕ → ℕ → ℕ → ℕ → List ℕ → Type 0
Appends log used address value next left = (left ≡ appended log used address value) × (next ≡ used + width)

-- "Clearing sets use to 0 and leaves the bytes"
abbrev pub cleared_use : ℕ
cleared_use = 0

-- "log use is a multiple of 4", within the log (document 01, state ranges; document 02, wish 3)
unfoldable pub use_in_range : ℕ → ℕ → Bool
use_in_range used len = eqb (used % width) 0 && leb used len

-- a log of `len` bytes without room for so many records more
abbrev pub full : ℕ → ℕ → ℕ → Bool
full len used more = ltb len (used + more * width)

-- A host that clears a full log keeps a copy of it first. Recovery then goes copy by copy, over what the one before gave.
unfoldable pub recover_all : List ℕ → List (List ℕ) → List ℕ
recover_all save [] = save
recover_all save (c ∷ cs) = recover_all (recovery save c).save cs

unfoldable pub joined : List (List ℕ) → List ℕ
joined [] = []
joined (c ∷ cs) = c ++ joined cs

-- what is left of the copies where only the first n bytes of them all survive
unfoldable pub cut_copies : ℕ → List (List ℕ) → List (List ℕ)
cut_copies n [] = []
cut_copies n (c ∷ cs) = take n c ∷ cut_copies (n - length c) cs
