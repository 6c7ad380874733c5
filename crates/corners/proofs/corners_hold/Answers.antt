-- The corners are those of proofs/Rows.antt; the laws are those of proofs/Zero.antt and of the crates below.
use Rattle.joypad.proofs.Corners.{second_press, directions_selected, actions_selected, neither_selected, both_selected}
use Rattle.mbc.proofs.Cases.Mbc5Exact.{one_field}
use Rattle.memory.proofs.Laws.{fresh_in_range}
use Rattle.corners.proofs.Rows.{corners}
use Rattle.corners.proofs.Zero.{zero_closed, code_four}
use Rattle.corners.proofs.corners_hold.Goals as goal

pub returns : goal.returns
returns c = (
  corners,
  zero_closed,
  fresh_in_range,
  code_four,
  record {
    second_press = second_press;
    directions = directions_selected;
    actions = actions_selected;
    neither = neither_selected;
    both = both_selected;
  },
  one_field,
)
