use Rattle.declared_laws.proofs.Dashes.{names_tell}
use Rattle.declared_laws.proofs.laws.names_tell_slots.Goals as goal

pub returns : goal.returns
returns c = names_tell
