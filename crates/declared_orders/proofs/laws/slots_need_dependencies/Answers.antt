use Rattle.declared_orders.proofs.Places.{needs_dependencies}
use Rattle.declared_orders.proofs.laws.slots_need_dependencies.Goals as goal

pub returns : goal.returns
returns c = needs_dependencies
