-- The laws are those of proofs/Round.antt, proofs/LoadedPatches.antt and proofs/One.antt, the images those of proofs/Known.antt.
use Rattle.image.proofs.Known.{known}
use Rattle.image.proofs.LoadedPatches.{loaded_typed}
use Rattle.image.proofs.One.{one_store, one_stored}
use Rattle.image.proofs.Round.{state_back, image_back}
use Rattle.image.proofs.laws_hold.Goals as goal

pub returns : goal.returns
returns c = (state_back, image_back, loaded_typed, known, one_store, one_stored)
