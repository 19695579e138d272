use Rattle.std.proofs.Common.{◌∙◌, map}
use Rattle.std.proofs.lemmas.Result.{IfOk-weaker}
use Rattle.notes.specs.Containers.{removed_ids}
use Rattle.notes.proofs.LeftSteps.{names_same}
use Rattle.notes.proofs.containers.names_left.Goals as goal

pub returns : goal.returns
returns c =
    let exchanges = map (λ exchange. exchange.now) c.args.exchanges.now in
    IfOk-weaker c.names_unknown.result _ _
    (λ names same. same ∙ names_same c.in_ok-removed.removed (removed_ids exchanges) c.in_ok-removed.ensures exchanges)
    c.names_unknown.ensures
