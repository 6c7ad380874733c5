-- Each branch is a case of `kept`.
use native.Mathlib.Omega.{arith}
use Rattle.recover_messages.proofs.Scans.{width_within, whole_less, keeps_less, keeps_all}
use Rattle.recover_messages.proofs.journal.Journal.kept.Goals as goal

pub overflow_add-up : goal.overflow_add-up
overflow_add-up c = record { fits = omega (arith, c.args.self.within.0, c.args.self.within.1, c.len.ensures, (width_within c.args.self.form).1) }

pub overflow_sub-up : goal.overflow_sub-up
overflow_sub-up c = omega (arith, c.len.ensures, (width_within c.args.self.form).0)

pub bytes_of-next-requires : goal.bytes_of-next-requires
bytes_of-next-requires c = omega (arith, c.args.self.within.0, c.args.self.within.1, c.records_in.ensures.1, c.len.ensures, (width_within c.args.self.form).1)

pub bytes_of-requires : goal.bytes_of-requires
bytes_of-requires c = omega (arith, c.args.self.within.0, c.args.self.within.1, c.records_in-then-next-s.ensures.1)

pub returns-then-next-s : goal.returns-then-next-s
returns-then-next-s c = (keeps_less c.args.self.form _ _ _ _ _ c.len.ensures c.records_in.ensures.0 c.bytes_of-next.ensures _ _ c.if-next-s.true c.records_in-then-next-s.ensures.0 c.bytes_of.ensures, rw (c.bytes_of.ensures, c.records_in-then-next-s.ensures.0) (omega (arith, c.args.self.within.0, whole_less c.args.self.form c.args.self.scan.end)))

pub returns-else-next-s : goal.returns-else-next-s
returns-else-next-s c = (keeps_all c.args.self.form _ _ _ _ _ c.len.ensures c.records_in.ensures.0 c.bytes_of-next.ensures c.if-next-s.false, omega arith)
