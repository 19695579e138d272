use Rattle.std.proofs.Common.{ap}
use Rattle.interpolate.specs.Substitution.{counted, substituted}
use Rattle.laws_loading.proofs.TailValues.{default_value}
use Rattle.laws_loading.proofs.defaults.unset_gives_tail.Goals as goal

pub returns : goal.returns
unfolding substituted
returns c = λ env colon name tail is fits unset. default_value env colon name tail is fits (ap (counted colon) unset)
