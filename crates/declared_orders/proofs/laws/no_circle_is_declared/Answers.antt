use Rattle.declared_orders.proofs.Circles.{none_declared}
use Rattle.declared_orders.proofs.laws.no_circle_is_declared.Goals as goal

pub returns : goal.returns
returns c = none_declared
