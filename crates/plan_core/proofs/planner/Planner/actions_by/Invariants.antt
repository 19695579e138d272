use Rattle.std.proofs.Common.{◌≡◌, map, take}
use Rattle.engine_types.specs.declared.Action.{Action}
use Rattle.engine_types.specs.declared.ActionKind.{ActionKind}
use Rattle.run_model.specs.Plans.{needed_by}
use Rattle.plan_core.proofs.planner.Planner.actions_by.Given as goal

abbrev pub invariant-loop-kind : goal.invariant-loop-kind
invariant-loop-kind l = l.actions ≡ map (λ (kind : ActionKind). let action : Action = record { kind = kind; needs = needed_by l.self l.kinds kind } in action) (take l.kind-index l.kinds)
