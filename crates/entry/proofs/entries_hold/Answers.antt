-- The theorems of proofs/One.antt, Refused.antt and LentLess.antt.
use Rattle.entry.proofs.LentLess.{lent_less}
use Rattle.entry.proofs.One.{one_entry}
use Rattle.entry.proofs.Refused.{refused_entry}
use Rattle.entry.proofs.entries_hold.Goals as goal

pub returns : goal.returns
returns c = (one_entry, refused_entry, lent_less)
