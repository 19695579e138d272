use Rattle.declared_laws.proofs.Names.{none_named_twice}
use Rattle.declared_laws.proofs.laws.unnamed_are_not_refused.Goals as goal

pub returns : goal.returns
returns c = λ project scales order few unnamed. none_named_twice project scales few unnamed order
