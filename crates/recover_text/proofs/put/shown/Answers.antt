-- Each branch is a case of `shown`.
use Rattle.rules.proofs.Tests.{tests}
use Rattle.recover_text.specs.Text.{shown}
use Rattle.recover_text.proofs.put.shown.Goals as goal
use Rattle.recover_text.proofs.put.shown.Goals.{else-b-ge32-via-then-b-ge32+else-b-lt127, else-b-ge32-via-else-b-ge32}

pub returns-then-b-lt127 : goal.returns-then-b-lt127
unfolding shown
returns-then-b-lt127 c = search tests

pub returns-else-b-ge32 : goal.returns-else-b-ge32
unfolding shown
returns-else-b-ge32 c = elim c.else-b-ge32.branch [
  | else-b-ge32-via-then-b-ge32+else-b-lt127 w ↦ search tests
  | else-b-ge32-via-else-b-ge32 w ↦ search tests
]
