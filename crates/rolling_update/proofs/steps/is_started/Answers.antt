use Rattle.std.proofs.Common.{◌∙◌, List, ap}
use Rattle.std.specs.List.{list_any}
use Rattle.engine_types.specs.declared.Action.{Action}
use Rattle.rolling_update.specs.Needs.{starts_at}
use Rattle.rolling_update.proofs.Found.{started_found}
use Rattle.rolling_update.proofs.steps.is_started.Goals as goal

pub returns : goal.returns
returns c =
    c.any_starts.ensures ∙ ap (λ (actions : List Action). list_any (starts_at actions c.args.number) c.steps_under.result.now) c.actions.ensures
    ∙ ap (list_any (starts_at c.args.finder.now.actions c.args.number)) c.steps_under.ensures
    ∙ started_found c.args.finder.now.scene c.args.finder.now.actions c.args.number c.requires
