use Rattle.declared_laws.proofs.Names.{given_names_differ}
use Rattle.declared_laws.proofs.laws.declared_names_differ.Goals as goal

pub returns : goal.returns
returns c = given_names_differ
