use Rattle.plan_needs.proofs.Turning.{net, released}
use Rattle.plan_needs.proofs.laws.turned_are_dependents.Goals as goal

pub returns : goal.returns
returns c = record { net = net; released = released }
