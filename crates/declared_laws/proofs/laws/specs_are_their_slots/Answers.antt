use Rattle.declared_laws.proofs.OwnSpecs.{declares_own}
use Rattle.declared_laws.proofs.laws.specs_are_their_slots.Goals as goal

pub returns : goal.returns
returns c = declares_own
