-- `ram_write_keeps`: no mapper has a register at 8000 or above.
use borrow.Author.Tests.{leb-true}
use Rattle.mbc.proofs.Laws.{ram_write_keeps}
use Rattle.mbc.proofs.mbc.Mapper.keeps.Goals as goal

pub returns : goal.returns
returns c = λ h k v. ram_write_keeps k _ _ v (leb-true _ _ h)
