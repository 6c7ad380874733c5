-- Quick, or by the transfer that it starts.
use Rattle.quick_writes.proofs.WriteLaws.{put_quick, starts_either}
use Rattle.quick_writes.proofs.put_all.Goals as goal

pub put_byte-requires : goal.put_byte-requires
put_byte-requires c = c.requires.0

pub returns-then-is_quick : goal.returns-then-is_quick
returns-then-is_quick c = put_quick _ _ _ _ _ c.is_quick.ensures c.if-is_quick.true c.put_byte.ensures

pub start-requires : goal.start-requires
start-requires c = (c.requires.1, starts_either _ c.is_quick.ensures c.if-is_quick.false)

pub returns : goal.returns
returns c = c.start.ensures _
