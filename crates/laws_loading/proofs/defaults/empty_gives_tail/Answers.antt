use Rattle.std.proofs.Common.{true, ap}
use Rattle.interpolate.specs.Substitution.{counted, substituted}
use Rattle.laws_loading.proofs.TailValues.{default_value}
use Rattle.laws_loading.proofs.defaults.empty_gives_tail.Goals as goal

pub returns : goal.returns
unfolding substituted
returns c = λ env name tail is fits empty. default_value env true name tail is fits (ap (counted true) empty)
