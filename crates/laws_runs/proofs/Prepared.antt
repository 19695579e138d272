-- A run may begin with what is prepared for it.
use Rattle.std.proofs.Common.{◌≡◌, ◌⊎◌, ℕ, List, [], ◌∷◌, map, refl, sym, ap, subst, inl, inr}
use Rattle.engine_types.specs.declared.Action.{Action}
use Rattle.engine_types.specs.declared.ActionKind.{ActionKind}
use Rattle.engine_types.specs.declared.Declared.{Declared}
use Rattle.engine_types.specs.declared.Observed.{Observed}
use Rattle.engine_types.specs.declared.Plan.{Plan}
use Rattle.engine_types.specs.declared.RunLimits.{RunLimits}
use Rattle.run_model.specs.Plans.{Basis, HasPlan, IsOrderly, needed_by, planned, planned_kinds}
use Rattle.run_model.proofs.PlanLaws.{planned_is_plan}
use Rattle.run_model.proofs.RollLaws.{has_plan}
use Rattle.plan_core.proofs.OrderlyPlans.{plans_are_orderly}
use Rattle.run_laws.proofs.RunOrders.{runs_are_orderly}
use Rattle.ledger_core.specs.Beginning.{MayBegin}
use Rattle.laws_runs.specs.BeginLaws.{RunsMayBegin}
use Rattle.laws_runs.specs.Preparing.{AreRolled, AreThePlans, IsPrepared}
use Rattle.laws_runs.proofs.Aims.{basis_with, planned_orderly, rolled_orderly}

-- the kinds of listed actions
kinds_listed : (ns : ActionKind → List ℕ) (ks : List ActionKind)
    → map (λ (action : Action). action.kind) (map (λ (kind : ActionKind). let action : Action = record { kind = kind; needs = ns kind } in action) ks) ≡ ks
kinds_listed ns [] = refl
kinds_listed ns (k ∷ ks) = ap (λ (rest : List ActionKind). k ∷ rest) (kinds_listed ns ks)

-- the plan as it is listed is a plan
planned_has : (basis : Basis) → HasPlan basis (planned basis)
planned_has basis = record {
  kinds = kinds_listed (needed_by basis (planned_kinds basis)) (planned_kinds basis);
  needs = λ a b kind other h k t. ((planned_is_plan basis).needs a b kind other h k).1 t;
}

module _ (declared : Declared) (observed : Observed) (plan : Plan) (limits : RunLimits) (is : IsPrepared declared observed plan limits) where
  abbrev basis : Basis
  basis = basis_with declared is.seen is.aim

  plans : AreThePlans basis plan.actions ⊎ AreRolled basis plan.actions → HasPlan basis plan.actions
  plans (inl same) = subst (λ (xs : List Action). HasPlan basis xs) (sym same) (planned_has basis)
  plans (inr are) = subst (λ (xs : List Action). HasPlan basis xs) (sym are.rolled) (has_plan basis)

  orders : AreThePlans basis plan.actions ⊎ AreRolled basis plan.actions → IsOrderly declared plan.actions
  orders (inl same) = subst (λ (xs : List Action). IsOrderly declared xs) (sym same) (planned_orderly declared is.seen plans_are_orderly is.aim is.acyclic)
  orders (inr are) = subst (λ (xs : List Action). IsOrderly declared xs) (sym are.rolled)
      (rolled_orderly declared is.seen runs_are_orderly is.aim is.whole are.numbers is.acyclic are.needs)

  may : MayBegin declared observed plan limits
  may = record {
    aim = is.aim;
    seen = is.seen;
    good = is.good;
    was_observed = is.was_observed;
    whole = is.whole;
    has_plan = plans is.actions;
    orderly = orders is.actions;
    kept = is.kept;
    waits_up = is.waits_up;
    some_worker = is.some_worker;
    few_workers = is.few_workers;
  }

pub may_begin : RunsMayBegin
may_begin declared observed plan limits is = may declared observed plan limits is
