-- What was planned may begin.
use Rattle.std.proofs.Common.{◌≡◌, ◌∙◌, Bool, true, false, List, refl, sym, ap, subst, arith}
use Rattle.std.specs.Prelude.{◌&&◌}
use Rattle.engine_types.specs.declared.Action.{Action}
use Rattle.engine_types.specs.declared.Aim.{Aim}
use Rattle.engine_types.specs.declared.Declared.{Declared}
use Rattle.engine_types.specs.declared.Observed.{Observed}
use Rattle.engine_types.specs.declared.Plan.{Plan}
use Rattle.engine_types.specs.declared.Purpose.{Purpose}
use Rattle.engine_types.specs.declared.RunLimits.{RunLimits}
use Rattle.engine_types.specs.declared.Seen.{Seen}
use Rattle.ledger_core.specs.Beginning.{MayBegin}
use Rattle.ledger_run.specs.Tellings.{Telling}
use Rattle.plan_core.specs.Order.{HasNoCycle}
use Rattle.project_run.proofs.PlansOfAims.{down_is, up_rolled}
use Rattle.project_run.specs.Opening.{Opens}
use Rattle.project_run.specs.Options.{bounded}
use Rattle.project_run.specs.declared.opening.Opening.{Opening}
use Rattle.run_laws.proofs.RunOrders.{runs_are_orderly}
use Rattle.run_laws.specs.Orders.{NeedsDependencies}
use Rattle.run_model.proofs.RollLaws.{has_plan}
use Rattle.run_model.specs.Observation.{is_up}
use Rattle.run_model.specs.Plans.{Basis, HasPlan, HasSmallNumbers, IsOrderly, IsWhole, basis_of}
use Rattle.run_model.specs.Rolling.{run_actions}

-- the actions of a run of either purpose can be carried out in some order
orderly : (declared : Declared) (seen : Seen) (aim : Aim) → IsWhole declared → HasSmallNumbers declared → HasNoCycle declared → NeedsDependencies declared
    → IsOrderly declared (run_actions (basis_of declared seen aim))
orderly declared seen aim whole small acyclic needs = at aim.purpose refl
  where
    at : (purpose : Purpose) → aim.purpose ≡ purpose → IsOrderly declared (run_actions (basis_of declared seen aim))
    at Purpose.Up is = subst (λ (actions : List Action). IsOrderly declared actions) (up_rolled declared seen aim is)
        (runs_are_orderly declared seen aim.orphans aim.volumes whole small acyclic needs).0
    at Purpose.Down is = subst (λ (basis : Basis). IsOrderly declared (run_actions basis)) (down_is declared seen aim is)
        (runs_are_orderly declared seen aim.orphans aim.volumes whole small acyclic needs).1

both : (a b : Bool) → (a && b) ≡ true → b ≡ true
both true b e = e
both false b e = absurd (cc e)

-- a run may begin that opened so, within limits of one worker
pub may_begin : (declared : Declared) (aim : Aim) (observed : Observed) (plan : Plan) (bounds limits : RunLimits) (before now : Telling)
    → IsWhole declared → HasSmallNumbers declared → HasNoCycle declared → NeedsDependencies declared → Opens declared aim (Opening.Planned observed plan) before now
    → bounds.workers ≡ 1 → limits ≡ bounded aim bounds
    → MayBegin declared observed plan limits
may_begin declared aim observed plan bounds limits before now whole small acyclic needs opens one bound = record {
  aim = aim;
  seen = opens.follows.0;
  good = opens.follows.1;
  was_observed = opens.observed;
  whole = whole;
  has_plan = subst (λ (actions : List Action). HasPlan (basis_of declared opens.follows.0 aim) actions)
      (sym opens.follows.2) (has_plan (basis_of declared opens.follows.0 aim));
  orderly = subst (λ (actions : List Action). IsOrderly declared actions) (sym opens.follows.2) (orderly declared opens.follows.0 aim whole small acyclic needs);
  kept = opens.follows.4;
  waits_up = λ waits. both bounds.wait (is_up aim.purpose) (ap (λ (l : RunLimits). l.wait) (sym bound) ∙ waits);
  some_worker = let n : limits.workers ≡ 1 = ap (λ (l : RunLimits). l.workers) bound ∙ one in omega (arith, n);
  few_workers = let n : limits.workers ≡ 1 = ap (λ (l : RunLimits). l.workers) bound ∙ one in omega (arith, n);
}
