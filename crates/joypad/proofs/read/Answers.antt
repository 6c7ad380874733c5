-- The half that answers; what Pan Docs say of it is a law of the definition.
use borrow.Author.Rules.{rules}
use Rattle.joypad.specs.Joypad.{pad_read}
use Rattle.joypad.proofs.Laws.{reads}
use Rattle.joypad.proofs.read.Goals as goal

pub returns-then-are_direction_keys_enabled : goal.returns-then-are_direction_keys_enabled
unfolding pad_read
returns-then-are_direction_keys_enabled c = let p : _ = reads _ _ (search rules) (rw (← c.are_direction_keys_enabled.ensures, c.if-are_direction_keys_enabled.true)) in record { value = p.0; pandocs = p.1 }

pub returns : goal.returns
unfolding pad_read
returns c = let p : _ = reads _ _ (search rules) (rw (← c.are_direction_keys_enabled.ensures, c.if-are_direction_keys_enabled.false)) in record { value = p.0; pandocs = p.1 }
