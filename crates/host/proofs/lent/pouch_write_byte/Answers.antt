-- With every memory lent, it is the entry itself.
use Rattle.entry.specs.Entries.{entry}
use borrow.Author.Rules.{rules}
use Rattle.host.proofs.lent.pouch_write_byte.Goals as goal

pub returns : goal.returns
unfolding entry
returns c = search rules
