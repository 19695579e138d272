use Rattle.std.proofs.Common.{refl}
use Rattle.response_rules.proofs.examples.values_are_counted.Goals as goal

pub returns : goal.returns
returns c = refl
