use Rattle.std.proofs.Common.{◌∙◌}
use Rattle.std.proofs.lemmas.Result.{IfErr-weaker}
use Rattle.compose_cli.specs.Ends.{SendsNothing}
use Rattle.refusals.specs.Saying.{IsSaid}
use Rattle.refusals.specs.declared.Refusal.{Refusal}
use Rattle.compose.proofs.made.status_of_call.Goals as goal

pub returns : goal.returns
returns g c = IfErr-weaker _ _ _
    (λ (refusal : Refusal) (both : SendsNothing c.compose_main-earlier.result.last × IsSaid refusal c.compose_main-earlier.result.last.refusal).
    (c.compose_main-earlier.result.last.refusal, both.1, c.status_in.ensures ∙ c.compose_main-earlier.ensures.status))
    c.compose_main-earlier.ensures.words
