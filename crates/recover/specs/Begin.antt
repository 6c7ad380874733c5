-- How a log is read, by the word for it.
use Rattle.std.specs.Prelude.{Bool, cond}
use Rattle.savelog.specs.declared.Form.{Form}
use Rattle.savelog.specs.declared.Form.TheVariants.{Three, Four}

-- `--old`: the records of versions before 3.0
abbrev pub form_of : Bool → Form
form_of old = cond old Three Four
