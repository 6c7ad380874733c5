-- The number of records is `length_records`.
use mathlib.Core.Path.{sym}
use Rattle.savelog.specs.Log.{Four}
use Rattle.savelog.proofs.Prefix.{length_records}
use Rattle.savelog.proofs.whole_records.Goals as goal

pub returns : goal.returns
returns c = sym (length_records Four _)
