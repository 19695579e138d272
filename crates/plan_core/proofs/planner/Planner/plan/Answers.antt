-- The actions are those of the plan, with their needs.
use Rattle.std.proofs.Common.{◌≡◌, ◌∙◌, List, map, subst}
use Rattle.engine_types.specs.declared.Action.{Action}
use Rattle.engine_types.specs.declared.ActionKind.{ActionKind}
use Rattle.run_model.specs.Plans.{needed_by}
use Rattle.plan_core.proofs.planner.Planner.plan.Goals as goal

pub returns-clause-planned : goal.returns-clause-planned
returns-clause-planned c =
    subst (λ (kinds : List ActionKind). c.in_ok-actions.actions
    ≡ map (λ (kind : ActionKind). let action : Action = record { kind = kind; needs = needed_by c.args.self.now kinds kind } in action) kinds)
    (c.as_slice.ensures ∙ c.in_ok-kinds.ensures) c.in_ok-actions.ensures
