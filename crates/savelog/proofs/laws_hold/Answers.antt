-- The laws are those of proofs/Prefix.antt and proofs/One.antt.
use Rattle.savelog.proofs.Prefix.{corner, append_adds, prefix, copies}
use Rattle.savelog.proofs.ConvertLaws.{last_ignored}
use Rattle.savelog.proofs.One.{one_recovery, one_recovered, one_append}
use Rattle.savelog.proofs.laws_hold.Goals as goal

pub returns : goal.returns
returns c = (corner, append_adds, prefix, last_ignored, copies, one_recovery, one_recovered, one_append)
