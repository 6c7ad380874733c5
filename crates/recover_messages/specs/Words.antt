-- The words of the messages, in ASCII: each beside the codes of its characters. A number that a call gives is one digit.
use Rattle.std.specs.Prelude.{List, [], ◌∷◌, ℕ, ◌+◌}
use Rattle.numbers.specs.Numbers.{done, wrong_length, damaged}

-- "0: recovered, "
abbrev pub recovered : List ℕ
recovered = (48 + done) ∷ 58 ∷ 32 ∷ 114 ∷ 101 ∷ 99 ∷ 111 ∷ 118 ∷ 101 ∷ 114 ∷ 101 ∷ 100 ∷ 44 ∷ 32 ∷ []

-- "; "
abbrev pub semicolon : List ℕ
semicolon = 59 ∷ 32 ∷ []

-- "; no NEW is named, nothing is written\n"
abbrev pub no_new : List ℕ
no_new = 59 ∷ 32 ∷ 110 ∷ 111 ∷ 32 ∷ 78 ∷ 69 ∷ 87 ∷ 32 ∷ 105 ∷ 115 ∷ 32 ∷ 110 ∷ 97 ∷ 109 ∷ 101 ∷ 100 ∷ 44 ∷ 32 ∷ 110 ∷ 111 ∷ 116 ∷ 104 ∷ 105 ∷ 110 ∷ 103 ∷ 32 ∷ 105 ∷ 115 ∷ 32 ∷ 119 ∷ 114 ∷ 105 ∷ 116 ∷ 116 ∷ 101 ∷ 110 ∷ 10 ∷ []

-- "record"
abbrev pub record_noun : List ℕ
record_noun = 114 ∷ 101 ∷ 99 ∷ 111 ∷ 114 ∷ 100 ∷ []

-- "byte"
abbrev pub byte_noun : List ℕ
byte_noun = 98 ∷ 121 ∷ 116 ∷ 101 ∷ []

-- ": its last record is torn; left out: "
abbrev pub torn : List ℕ
torn = 58 ∷ 32 ∷ 105 ∷ 116 ∷ 115 ∷ 32 ∷ 108 ∷ 97 ∷ 115 ∷ 116 ∷ 32 ∷ 114 ∷ 101 ∷ 99 ∷ 111 ∷ 114 ∷ 100 ∷ 32 ∷ 105 ∷ 115 ∷ 32 ∷ 116 ∷ 111 ∷ 114 ∷ 110 ∷ 59 ∷ 32 ∷ 108 ∷ 101 ∷ 102 ∷ 116 ∷ 32 ∷ 111 ∷ 117 ∷ 116 ∷ 58 ∷ 32 ∷ []

-- ": it ends in zeros, as a power cut leaves them; left out: "
abbrev pub zeros : List ℕ
zeros = 58 ∷ 32 ∷ 105 ∷ 116 ∷ 32 ∷ 101 ∷ 110 ∷ 100 ∷ 115 ∷ 32 ∷ 105 ∷ 110 ∷ 32 ∷ 122 ∷ 101 ∷ 114 ∷ 111 ∷ 115 ∷ 44 ∷ 32 ∷ 97 ∷ 115 ∷ 32 ∷ 97 ∷ 32 ∷ 112 ∷ 111 ∷ 119 ∷ 101 ∷ 114 ∷ 32 ∷ 99 ∷ 117 ∷ 116 ∷ 32 ∷ 108 ∷ 101 ∷ 97 ∷ 118 ∷ 101 ∷ 115 ∷ 32 ∷ 116 ∷ 104 ∷ 101 ∷ 109 ∷ 59 ∷ 32 ∷ 108 ∷ 101 ∷ 102 ∷ 116 ∷ 32 ∷ 111 ∷ 117 ∷ 116 ∷ 58 ∷ 32 ∷ []

-- ": its mark is torn; left out: "
abbrev pub torn_mark : List ℕ
torn_mark = 58 ∷ 32 ∷ 105 ∷ 116 ∷ 115 ∷ 32 ∷ 109 ∷ 97 ∷ 114 ∷ 107 ∷ 32 ∷ 105 ∷ 115 ∷ 32 ∷ 116 ∷ 111 ∷ 114 ∷ 110 ∷ 59 ∷ 32 ∷ 108 ∷ 101 ∷ 102 ∷ 116 ∷ 32 ∷ 111 ∷ 117 ∷ 116 ∷ 58 ∷ 32 ∷ []

-- " of "
abbrev pub of : List ℕ
of = 32 ∷ 111 ∷ 102 ∷ 32 ∷ []

-- "4: refused, "
abbrev pub refused4 : List ℕ
refused4 = (48 + wrong_length) ∷ 58 ∷ 32 ∷ 114 ∷ 101 ∷ 102 ∷ 117 ∷ 115 ∷ 101 ∷ 100 ∷ 44 ∷ 32 ∷ []

-- " has "
abbrev pub has : List ℕ
has = 32 ∷ 104 ∷ 97 ∷ 115 ∷ 32 ∷ []

-- "; a save has "
abbrev pub a_save_has : List ℕ
a_save_has = 59 ∷ 32 ∷ 97 ∷ 32 ∷ 115 ∷ 97 ∷ 118 ∷ 101 ∷ 32 ∷ 104 ∷ 97 ∷ 115 ∷ 32 ∷ []

-- ", "
abbrev pub comma : List ℕ
comma = 44 ∷ 32 ∷ []

-- " or "
abbrev pub or : List ℕ
or = 32 ∷ 111 ∷ 114 ∷ 32 ∷ []

-- "\n"
abbrev pub line_end : List ℕ
line_end = 10 ∷ []

-- "6: refused, "
abbrev pub refused6 : List ℕ
refused6 = (48 + damaged) ∷ 58 ∷ 32 ∷ 114 ∷ 101 ∷ 102 ∷ 117 ∷ 115 ∷ 101 ∷ 100 ∷ 44 ∷ 32 ∷ []

-- "; its record "
abbrev pub its_record : List ℕ
its_record = 59 ∷ 32 ∷ 105 ∷ 116 ∷ 115 ∷ 32 ∷ 114 ∷ 101 ∷ 99 ∷ 111 ∷ 114 ∷ 100 ∷ 32 ∷ []

-- " is damaged or not of a save of "
abbrev pub is_damaged : List ℕ
is_damaged = 32 ∷ 105 ∷ 115 ∷ 32 ∷ 100 ∷ 97 ∷ 109 ∷ 97 ∷ 103 ∷ 101 ∷ 100 ∷ 32 ∷ 111 ∷ 114 ∷ 32 ∷ 110 ∷ 111 ∷ 116 ∷ 32 ∷ 111 ∷ 102 ∷ 32 ∷ 97 ∷ 32 ∷ 115 ∷ 97 ∷ 118 ∷ 101 ∷ 32 ∷ 111 ∷ 102 ∷ 32 ∷ []

-- ", its bytes are"
abbrev pub its_bytes : List ℕ
its_bytes = 44 ∷ 32 ∷ 105 ∷ 116 ∷ 115 ∷ 32 ∷ 98 ∷ 121 ∷ 116 ∷ 101 ∷ 115 ∷ 32 ∷ 97 ∷ 114 ∷ 101 ∷ []

-- "; nothing is written\n"
abbrev pub unwritten : List ℕ
unwritten = 59 ∷ 32 ∷ 110 ∷ 111 ∷ 116 ∷ 104 ∷ 105 ∷ 110 ∷ 103 ∷ 32 ∷ 105 ∷ 115 ∷ 32 ∷ 119 ∷ 114 ∷ 105 ∷ 116 ∷ 116 ∷ 101 ∷ 110 ∷ 10 ∷ []

-- "failed: "
abbrev pub failed : List ℕ
failed = 102 ∷ 97 ∷ 105 ∷ 108 ∷ 101 ∷ 100 ∷ 58 ∷ 32 ∷ []

-- " could not be found, so its size is not known; a regular file was expected\n"
abbrev pub absent : List ℕ
absent = 32 ∷ 99 ∷ 111 ∷ 117 ∷ 108 ∷ 100 ∷ 32 ∷ 110 ∷ 111 ∷ 116 ∷ 32 ∷ 98 ∷ 101 ∷ 32 ∷ 102 ∷ 111 ∷ 117 ∷ 110 ∷ 100 ∷ 44 ∷ 32 ∷ 115 ∷ 111 ∷ 32 ∷ 105 ∷ 116 ∷ 115 ∷ 32 ∷ 115 ∷ 105 ∷ 122 ∷ 101 ∷ 32 ∷ 105 ∷ 115 ∷ 32 ∷ 110 ∷ 111 ∷ 116 ∷ 32 ∷ 107 ∷ 110 ∷ 111 ∷ 119 ∷ 110 ∷ 59 ∷ 32 ∷ 97 ∷ 32 ∷ 114 ∷ 101 ∷ 103 ∷ 117 ∷ 108 ∷ 97 ∷ 114 ∷ 32 ∷ 102 ∷ 105 ∷ 108 ∷ 101 ∷ 32 ∷ 119 ∷ 97 ∷ 115 ∷ 32 ∷ 101 ∷ 120 ∷ 112 ∷ 101 ∷ 99 ∷ 116 ∷ 101 ∷ 100 ∷ 10 ∷ []

-- " is no regular file, so it has no size; a regular file was expected\n"
abbrev pub irregular : List ℕ
irregular = 32 ∷ 105 ∷ 115 ∷ 32 ∷ 110 ∷ 111 ∷ 32 ∷ 114 ∷ 101 ∷ 103 ∷ 117 ∷ 108 ∷ 97 ∷ 114 ∷ 32 ∷ 102 ∷ 105 ∷ 108 ∷ 101 ∷ 44 ∷ 32 ∷ 115 ∷ 111 ∷ 32 ∷ 105 ∷ 116 ∷ 32 ∷ 104 ∷ 97 ∷ 115 ∷ 32 ∷ 110 ∷ 111 ∷ 32 ∷ 115 ∷ 105 ∷ 122 ∷ 101 ∷ 59 ∷ 32 ∷ 97 ∷ 32 ∷ 114 ∷ 101 ∷ 103 ∷ 117 ∷ 108 ∷ 97 ∷ 114 ∷ 32 ∷ 102 ∷ 105 ∷ 108 ∷ 101 ∷ 32 ∷ 119 ∷ 97 ∷ 115 ∷ 32 ∷ 101 ∷ 120 ∷ 112 ∷ 101 ∷ 99 ∷ 116 ∷ 101 ∷ 100 ∷ 10 ∷ []

-- ": "
abbrev pub colon : List ℕ
colon = 58 ∷ 32 ∷ []

-- " could not be read; nothing is written\n"
abbrev pub unread : List ℕ
unread = 32 ∷ 99 ∷ 111 ∷ 117 ∷ 108 ∷ 100 ∷ 32 ∷ 110 ∷ 111 ∷ 116 ∷ 32 ∷ 98 ∷ 101 ∷ 32 ∷ 114 ∷ 101 ∷ 97 ∷ 100 ∷ 59 ∷ 32 ∷ 110 ∷ 111 ∷ 116 ∷ 104 ∷ 105 ∷ 110 ∷ 103 ∷ 32 ∷ 105 ∷ 115 ∷ 32 ∷ 119 ∷ 114 ∷ 105 ∷ 116 ∷ 116 ∷ 101 ∷ 110 ∷ 10 ∷ []

-- " could not be written; save and log are as they were\n"
abbrev pub as_they_were : List ℕ
as_they_were = 32 ∷ 99 ∷ 111 ∷ 117 ∷ 108 ∷ 100 ∷ 32 ∷ 110 ∷ 111 ∷ 116 ∷ 32 ∷ 98 ∷ 101 ∷ 32 ∷ 119 ∷ 114 ∷ 105 ∷ 116 ∷ 116 ∷ 101 ∷ 110 ∷ 59 ∷ 32 ∷ 115 ∷ 97 ∷ 118 ∷ 101 ∷ 32 ∷ 97 ∷ 110 ∷ 100 ∷ 32 ∷ 108 ∷ 111 ∷ 103 ∷ 32 ∷ 97 ∷ 114 ∷ 101 ∷ 32 ∷ 97 ∷ 115 ∷ 32 ∷ 116 ∷ 104 ∷ 101 ∷ 121 ∷ 32 ∷ 119 ∷ 101 ∷ 114 ∷ 101 ∷ 10 ∷ []

-- " exists and has "
abbrev pub exists : List ℕ
exists = 32 ∷ 101 ∷ 120 ∷ 105 ∷ 115 ∷ 116 ∷ 115 ∷ 32 ∷ 97 ∷ 110 ∷ 100 ∷ 32 ∷ 104 ∷ 97 ∷ 115 ∷ 32 ∷ []

-- " is the save itself and has "
abbrev pub is_save : List ℕ
is_save = 32 ∷ 105 ∷ 115 ∷ 32 ∷ 116 ∷ 104 ∷ 101 ∷ 32 ∷ 115 ∷ 97 ∷ 118 ∷ 101 ∷ 32 ∷ 105 ∷ 116 ∷ 115 ∷ 101 ∷ 108 ∷ 102 ∷ 32 ∷ 97 ∷ 110 ∷ 100 ∷ 32 ∷ 104 ∷ 97 ∷ 115 ∷ 32 ∷ []

-- "; --replace replaces it\n"
abbrev pub replaces : List ℕ
replaces = 59 ∷ 32 ∷ 45 ∷ 45 ∷ 114 ∷ 101 ∷ 112 ∷ 108 ∷ 97 ∷ 99 ∷ 101 ∷ 32 ∷ 114 ∷ 101 ∷ 112 ∷ 108 ∷ 97 ∷ 99 ∷ 101 ∷ 115 ∷ 32 ∷ 105 ∷ 116 ∷ 10 ∷ []

-- " is the log and has "
abbrev pub is_log : List ℕ
is_log = 32 ∷ 105 ∷ 115 ∷ 32 ∷ 116 ∷ 104 ∷ 101 ∷ 32 ∷ 108 ∷ 111 ∷ 103 ∷ 32 ∷ 97 ∷ 110 ∷ 100 ∷ 32 ∷ 104 ∷ 97 ∷ 115 ∷ 32 ∷ []

-- "; nothing replaces it\n"
abbrev pub no_replace : List ℕ
no_replace = 59 ∷ 32 ∷ 110 ∷ 111 ∷ 116 ∷ 104 ∷ 105 ∷ 110 ∷ 103 ∷ 32 ∷ 114 ∷ 101 ∷ 112 ∷ 108 ∷ 97 ∷ 99 ∷ 101 ∷ 115 ∷ 32 ∷ 105 ∷ 116 ∷ 10 ∷ []

-- " changed meanwhile: it had "
abbrev pub changed : List ℕ
changed = 32 ∷ 99 ∷ 104 ∷ 97 ∷ 110 ∷ 103 ∷ 101 ∷ 100 ∷ 32 ∷ 109 ∷ 101 ∷ 97 ∷ 110 ∷ 119 ∷ 104 ∷ 105 ∷ 108 ∷ 101 ∷ 58 ∷ 32 ∷ 105 ∷ 116 ∷ 32 ∷ 104 ∷ 97 ∷ 100 ∷ 32 ∷ []

-- " is written and has "
abbrev pub is_written : List ℕ
is_written = 32 ∷ 105 ∷ 115 ∷ 32 ∷ 119 ∷ 114 ∷ 105 ∷ 116 ∷ 116 ∷ 101 ∷ 110 ∷ 32 ∷ 97 ∷ 110 ∷ 100 ∷ 32 ∷ 104 ∷ 97 ∷ 115 ∷ 32 ∷ []

-- "; its folder could not be flushed to the disk\n"
abbrev pub unflushed : List ℕ
unflushed = 59 ∷ 32 ∷ 105 ∷ 116 ∷ 115 ∷ 32 ∷ 102 ∷ 111 ∷ 108 ∷ 100 ∷ 101 ∷ 114 ∷ 32 ∷ 99 ∷ 111 ∷ 117 ∷ 108 ∷ 100 ∷ 32 ∷ 110 ∷ 111 ∷ 116 ∷ 32 ∷ 98 ∷ 101 ∷ 32 ∷ 102 ∷ 108 ∷ 117 ∷ 115 ∷ 104 ∷ 101 ∷ 100 ∷ 32 ∷ 116 ∷ 111 ∷ 32 ∷ 116 ∷ 104 ∷ 101 ∷ 32 ∷ 100 ∷ 105 ∷ 115 ∷ 107 ∷ 10 ∷ []

-- " and does not begin as a journal of version 3 does; if an older version wrote it, --old reads it\n"
abbrev pub unmarked : List ℕ
unmarked = 32 ∷ 97 ∷ 110 ∷ 100 ∷ 32 ∷ 100 ∷ 111 ∷ 101 ∷ 115 ∷ 32 ∷ 110 ∷ 111 ∷ 116 ∷ 32 ∷ 98 ∷ 101 ∷ 103 ∷ 105 ∷ 110 ∷ 32 ∷ 97 ∷ 115 ∷ 32 ∷ 97 ∷ 32 ∷ 106 ∷ 111 ∷ 117 ∷ 114 ∷ 110 ∷ 97 ∷ 108 ∷ 32 ∷ 111 ∷ 102 ∷ 32 ∷ 118 ∷ 101 ∷ 114 ∷ 115 ∷ 105 ∷ 111 ∷ 110 ∷ 32 ∷ 51 ∷ 32 ∷ 100 ∷ 111 ∷ 101 ∷ 115 ∷ 59 ∷ 32 ∷ 105 ∷ 102 ∷ 32 ∷ 97 ∷ 110 ∷ 32 ∷ 111 ∷ 108 ∷ 100 ∷ 101 ∷ 114 ∷ 32 ∷ 118 ∷ 101 ∷ 114 ∷ 115 ∷ 105 ∷ 111 ∷ 110 ∷ 32 ∷ 119 ∷ 114 ∷ 111 ∷ 116 ∷ 101 ∷ 32 ∷ 105 ∷ 116 ∷ 44 ∷ 32 ∷ 45 ∷ 45 ∷ 111 ∷ 108 ∷ 100 ∷ 32 ∷ 114 ∷ 101 ∷ 97 ∷ 100 ∷ 115 ∷ 32 ∷ 105 ∷ 116 ∷ 10 ∷ []

-- " and begins as a journal of version 3 does; leave --old and --bare out\n"
abbrev pub marked : List ℕ
marked = 32 ∷ 97 ∷ 110 ∷ 100 ∷ 32 ∷ 98 ∷ 101 ∷ 103 ∷ 105 ∷ 110 ∷ 115 ∷ 32 ∷ 97 ∷ 115 ∷ 32 ∷ 97 ∷ 32 ∷ 106 ∷ 111 ∷ 117 ∷ 114 ∷ 110 ∷ 97 ∷ 108 ∷ 32 ∷ 111 ∷ 102 ∷ 32 ∷ 118 ∷ 101 ∷ 114 ∷ 115 ∷ 105 ∷ 111 ∷ 110 ∷ 32 ∷ 51 ∷ 32 ∷ 100 ∷ 111 ∷ 101 ∷ 115 ∷ 59 ∷ 32 ∷ 108 ∷ 101 ∷ 97 ∷ 118 ∷ 101 ∷ 32 ∷ 45 ∷ 45 ∷ 111 ∷ 108 ∷ 100 ∷ 32 ∷ 97 ∷ 110 ∷ 100 ∷ 32 ∷ 45 ∷ 45 ∷ 98 ∷ 97 ∷ 114 ∷ 101 ∷ 32 ∷ 111 ∷ 117 ∷ 116 ∷ 10 ∷ []
