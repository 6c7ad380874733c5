-- An image that is refused, another length, or both halves.
use mathlib.Core.Path.{◌≡◌}
use lib.ListN.{length}
use Rattle.host.proofs.Shown.{unloaded_colors, other_length, all_colors}
use Rattle.entry.proofs.Held.{due}
use Rattle.refusals.proofs.Answers.{exit}
use mathlib.Core.Path.{refl}
use borrow.Author.Rules.{rules}
use Rattle.host.proofs.screen.put_colors.Goals as goal

pub returns-in_err-memory : goal.returns-in_err-memory
returns-in_err-memory c = rw (exit _ _ c.from_residual.ensures.1) (unloaded_colors _ _ c.in_err-memory.ensures (due _))

pub returns-then-colors-ne-COLORS_LEN : goal.returns-then-colors-ne-COLORS_LEN
returns-then-colors-ne-COLORS_LEN c = other_length _ _ c.in_ok-memory.ensures refl c.if-colors-ne-COLORS_LEN.true

pub returns : goal.returns
returns c = let b : length c.channels_of-background.result ≡ 96 = search (rules, c.channels_of-background.type_inv) in
    let s : length c.channels_of-sprites.result ≡ 96 = search (rules, c.channels_of-sprites.type_inv) in
    all_colors _ _ c.in_ok-memory.ensures refl c.if-colors-ne-COLORS_LEN.false c.channels_of-background.ensures c.channels_of-sprites.ensures b s c.put.ensures c.put-2.ensures
