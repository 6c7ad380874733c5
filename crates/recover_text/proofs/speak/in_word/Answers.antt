-- Each branch is a case of `in_word`.
use Rattle.rules.proofs.Tests.{tests}
use Rattle.recover_text.specs.Speak.{in_word}
use Rattle.recover_text.proofs.speak.in_word.Goals as goal

pub returns-then-b-ge33 : goal.returns-then-b-ge33
unfolding in_word
returns-then-b-ge33 c = search tests

pub returns-else-b-ge33 : goal.returns-else-b-ge33
unfolding in_word
returns-else-b-ge33 c = search tests
