use Rattle.std.proofs.Common.{[], true, refl}
use Rattle.response_rules.specs.Responses.{no_head}
use Rattle.response_rules.proofs.Shown.{skips_nothing}
use Rattle.response_rules.proofs.examples.nothing_is_ended.Goals as goal

pub returns : goal.returns
returns c = λ request. no_head [] [] true [] (skips_nothing []) refl refl
