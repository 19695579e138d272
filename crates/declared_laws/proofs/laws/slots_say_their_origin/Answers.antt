use Rattle.declared_laws.proofs.OwnSpecs.{declares_origin}
use Rattle.declared_laws.proofs.laws.slots_say_their_origin.Goals as goal

pub returns : goal.returns
returns c = declares_origin
