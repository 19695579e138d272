use Rattle.std.proofs.Common.{subst}
use Rattle.std.specs.List.{AllByRecursion}
use Rattle.service_bases.specs.Bases.{Alone}
use Rattle.service_bases.proofs.Standing.{by_values}
use Rattle.service_bases.proofs.base.extend_nothing.Goals as goal

pub returns : goal.returns
returns c = λ is. by_values c.args.services.now (subst (AllByRecursion Alone) c.values.ensures (c.are_alone.ensures is))
