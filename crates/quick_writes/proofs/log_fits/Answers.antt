-- Each test is a part.
use mathlib.Core.Path.{sym, ap, ◌∙◌}
use Prim.Native.Nat.{ℕ}
use Rattle.rules.proofs.Tests.{untrue}
use Rattle.savelog.specs.Log.{use_in_range}
use Rattle.quick_writes.proofs.log_fits.Goals as goal

pub returns-then-sound-ne-SOUND_LEN : goal.returns-then-sound-ne-SOUND_LEN
returns-then-sound-ne-SOUND_LEN c = λ z. untrue z

pub returns-then-log-gt-LOG_LIMIT : goal.returns-then-log-gt-LOG_LIMIT
returns-then-log-gt-LOG_LIMIT c = λ z. untrue z

pub returns : goal.returns
returns c = λ z. record { sound = c.if-sound-ne-SOUND_LEN.false; log = c.if-log-gt-LOG_LIMIT.false; used = ap (λ (n : ℕ). use_in_range n c.args.log) (sym c.used_at.ensures) ∙ sym c.use_in_range.ensures ∙ z }
