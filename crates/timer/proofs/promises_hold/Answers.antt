-- Each promise is a law.
use Rattle.timer.proofs.Laws.{clock_rises, tma_tac_stay, steps_compose, stays_in_range, corner_2, corner_3, steps_at_no_cycles}
use Rattle.timer.proofs.AtOnce.{at_once_law}
use Rattle.timer.proofs.Overflow.{calm_before, asked_from}
use Rattle.timer.proofs.One.{one_update, one_updated}
use Rattle.timer.proofs.promises_hold.Goals as goal

pub returns : goal.returns
returns c = record {
  clock_rises = clock_rises;
  tma_tac_stay = tma_tac_stay;
  steps_compose = steps_compose;
  at_once_law = at_once_law;
  stays_in_range = stays_in_range;
  calm_before = calm_before;
  asked_from = asked_from;
  corner_2 = corner_2;
  corner_3 = corner_3;
  steps_at_no_cycles = steps_at_no_cycles;
  one_update = one_update;
  one_updated = one_updated;
}
