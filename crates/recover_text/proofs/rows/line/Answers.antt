-- The pieces of a line, one behind the other.
use mathlib.Core.List.{[], ◌∷◌}
use native.Mathlib.Omega.{arith}
use Rattle.recover_text.proofs.Pieces.{puts_then, puts_ends, puts_length, texts_length}
use Rattle.recover_text.proofs.Digits.{spaced_length, shown_length}
use Rattle.recover_text.specs.Text.{spaced, shown}
use Rattle.recover_text.proofs.rows.line.Goals as goal

pub hexes-requires : goal.hexes-requires
hexes-requires c = omega (arith, c.requires, c.head.ensures.1, puts_length c.head.ensures.0)

pub text-requires : goal.text-requires
text-requires c = let h = c.hexes.ensures in
    omega (arith, c.requires, c.head.ensures.1, puts_length c.head.ensures.0, puts_ends h, puts_length h, texts_length spaced 3 spaced_length c.args.row.now)

pub shown_all-requires : goal.shown_all-requires
shown_all-requires c = let h = c.hexes.ensures in
    let t = c.text.ensures in
    omega (arith, c.requires, c.head.ensures.1, puts_length c.head.ensures.0, puts_ends h, puts_length h, puts_ends t, puts_length t, texts_length spaced 3 spaced_length c.args.row.now)

pub byte-requires : goal.byte-requires
byte-requires c = let h = c.hexes.ensures in
    let t = c.text.ensures in
    let s = c.shown_all.ensures in
    omega (
      arith,
      c.requires,
      c.head.ensures.1,
      puts_length c.head.ensures.0,
      puts_ends h,
      puts_length h,
      puts_ends t,
      puts_length t,
      puts_ends s,
      puts_length s,
      texts_length spaced 3 spaced_length c.args.row.now,
      texts_length (λ b. shown b ∷ []) 1 shown_length c.args.row.now,
    )

pub returns : goal.returns
returns c = let h = c.hexes.ensures in
    let t = c.text.ensures in
    let s = c.shown_all.ensures in
    let b = c.byte.ensures in (
      puts_then c.head.ensures.0 (puts_then h (puts_then t (puts_then s b))),
      omega (
        arith,
        c.requires,
        c.head.ensures.1,
        puts_ends h,
        puts_ends t,
        puts_ends s,
        puts_ends b,
        texts_length spaced 3 spaced_length c.args.row.now,
        texts_length (λ b. shown b ∷ []) 1 shown_length c.args.row.now,
      ),
    )
