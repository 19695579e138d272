use Rattle.laws_bytes.proofs.Lookups.{tables}
use Rattle.laws_bytes.proofs.bodies.tables_say_exactly.Goals as goal

pub returns : goal.returns
returns c = tables
