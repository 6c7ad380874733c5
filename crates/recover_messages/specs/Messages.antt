-- The messages, each a whole line: it names the file, its size, and what was expected.
use Rattle.std.specs.Prelude.{cond, List, [], ◌∷◌, ◌++◌, ℕ, ◌+◌, ◌-◌, ◌*◌, ◌/◌, ◌%◌, ltb, eqb, length, take, drop}
use Rattle.savelog.specs.Log.{width_of, records_by, save_lengths}
use Rattle.savelog.specs.declared.Form.{Form}
use Rattle.recover_text.specs.Text.{decimal, counted, hexes}
use Rattle.recover_messages.specs.Journal.{kept_of, sound_first}
use Rattle.recover_messages.specs.declared.journal.Scan.{Scan}
use Rattle.recover_messages.specs.declared.message.Why.{Why}
use Rattle.recover_messages.specs.declared.message.Why.TheVariants.{Absent, Irregular, Unread, Unwritten, Exists, IsSave, IsLog, Changed, Unflushed, Unmarked, Marked}
use Rattle.recover_messages.specs.Words as words

-- the most bytes of a message beside the name in it
abbrev pub room : ℕ
room = 200

-- a number of bytes between two texts
abbrev pub sized : List ℕ → ℕ → List ℕ → List ℕ
sized before n behind = before ++ (counted n words.byte_noun ++ behind)

-- `0: recovered, 10 records`: the whole records of what is kept of a journal
abbrev pub recovered_text : Form → Scan → List ℕ
recovered_text f s = words.recovered ++ counted (kept_of f s / width_of f) words.record_noun

-- `0: recovered, 10 records; game.new is written and has 512 bytes`
abbrev pub written_line : Form → Scan → List ℕ → ℕ → List ℕ
written_line f s name len = recovered_text f s ++ (words.semicolon ++ (name ++ sized words.is_written len words.line_end))

-- `0: recovered, 10 records; no NEW is named, nothing is written`
abbrev pub shown_line : Form → Scan → List ℕ
shown_line f s = recovered_text f s ++ words.no_new

-- `game.log: its last record is torn; left out: 2 bytes of 32`
-- `game.log: it ends in zeros, as a power cut leaves them; left out: 512 bytes of 1024`
abbrev pub left_out_line : List ℕ → List ℕ → ℕ → ℕ → List ℕ
left_out_line name why left len = name ++ (sized why left words.of ++ (decimal len ++ words.line_end))

-- what is left out at a journal's end: the zeros, or what a whole record lacks; no text, where nothing is. So many bytes are before its records.
unfoldable pub end_line : List ℕ → Form → ℕ → Scan → List ℕ
end_line name f before s =
    cond (ltb (kept_of f s) s.len)
    (left_out_line name words.zeros (s.len - kept_of f s) (before + s.len))
    (cond (eqb (s.len % width_of f) 0) [] (left_out_line name words.torn (s.len % width_of f) (before + s.len)))

-- `game.log: its mark is torn; left out: 2 bytes of 2`: nothing but zeros is behind; no text, where the file is empty
unfoldable pub torn_mark_line : List ℕ → ℕ → List ℕ
torn_mark_line name len = cond (eqb len 0) [] (left_out_line name words.torn_mark len len)

-- numbers, with a comma between two and an `or` before the last
unfoldable pub choice : List ℕ → List ℕ
choice [] = []
choice (n ∷ []) = decimal n
choice (n ∷ m ∷ []) = decimal n ++ (words.or ++ decimal m)
choice (n ∷ m ∷ k ∷ ns) = decimal n ++ (words.comma ++ choice (m ∷ k ∷ ns))

-- `4: refused, game.sav has 300 bytes; a save has 0, 512, 8192, 32768 or 131072`
abbrev pub wrong_length_line : List ℕ → ℕ → List ℕ
wrong_length_line name len = words.refused4 ++ (name ++ sized words.has len (words.a_save_has ++ (choice save_lengths ++ words.line_end)))

-- `6: refused, game.log has 300 bytes; its record 12 is damaged or not of a save of 512 bytes, its bytes are 12 34 56 00; nothing is written`
abbrev pub damaged_line : List ℕ → ℕ → ℕ → ℕ → List ℕ → List ℕ
damaged_line name len number ram bytes =
    words.refused6
    ++ (name ++ (sized words.has len words.its_record ++ (decimal number ++ (sized words.is_damaged ram words.its_bytes ++ (hexes bytes ++ words.unwritten)))))

-- the bytes of record n
abbrev pub record_at : Form → ℕ → List ℕ → List ℕ
record_at f n log = take (width_of f) (drop (n * width_of f) log)

-- the first damaged record of a part, where the scan before it is s and the whole file has `len` bytes; no text where none is damaged
unfoldable pub damage_line : List ℕ → Form → ℕ → Scan → List ℕ → ℕ → List ℕ
damage_line name f len s part ram =
    cond (ltb (sound_first ram (records_by f part)) (length (records_by f part)))
    (damaged_line name len (s.len / width_of f + sound_first ram (records_by f part)) ram (record_at f (sound_first ram (records_by f part)) part))
    []

-- what a file is told for, and its size; of what is to be written, the size that it was to have
abbrev pub why_text : Why → ℕ → List ℕ
why_text Absent len = words.absent
why_text Irregular len = words.irregular
why_text Unread len = sized words.colon len words.unread
why_text Unwritten len = sized words.colon len words.as_they_were
why_text Exists len = sized words.exists len words.replaces
why_text IsSave len = sized words.is_save len words.replaces
why_text IsLog len = sized words.is_log len words.no_replace
why_text Changed len = sized words.changed len words.unwritten
why_text Unflushed len = sized words.is_written len words.unflushed
why_text Unmarked len = sized words.has len words.unmarked
why_text Marked len = sized words.has len words.marked

-- `game.new is written and has 512 bytes; its folder could not be flushed to the disk`, and the same as a failure
abbrev pub note_line : Why → ℕ → List ℕ → List ℕ
note_line w len name = name ++ why_text w len

abbrev pub failed_line : Why → ℕ → List ℕ → List ℕ
failed_line w len name = words.failed ++ (name ++ why_text w len)
