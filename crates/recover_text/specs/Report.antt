-- All that is shown of what recovery changed.
use Rattle.std.specs.Prelude.{Bool, cond, List, ◌++◌, ℕ}
use Rattle.recover_text.specs.Text.{numbered}
use Rattle.recover_text.specs.Rows.{row_count, row_lines}
use Rattle.recover_text.specs.Speak.{row_heard}

-- every row's lines, in hex and to be heard
abbrev pub hex_rows : List ℕ → List ℕ → List ℕ
hex_rows old new = numbered (row_lines old new) 0 (row_count old)

abbrev pub heard_rows : List ℕ → List ℕ → List ℕ
heard_rows old new = numbered (row_heard old new) 0 (row_count old)

-- what is heard alone, where that is asked for; else behind the rows in hex
unfoldable pub report : Bool → List ℕ → List ℕ → List ℕ
report speak old new = cond speak (heard_rows old new) (hex_rows old new ++ heard_rows old new)
