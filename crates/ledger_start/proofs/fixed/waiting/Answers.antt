use Rattle.std.proofs.Common.{◌≡◌, ◌<◌, ◌==◌, ℕ, [], List, length, get_or, sym, ap, subst, arith}
use Rattle.engine_types.specs.declared.Action.{Action}
use Rattle.run_model.specs.EngineRules.{Among}
use Rattle.run_model.specs.Plans.{needs_of}
use Rattle.ledger_rows.specs.Counts.{counted}
use Rattle.plan_needs.specs.Waits.{waited}
use Rattle.ledger_start.specs.Outsets.{start_setup}
use Rattle.ledger_start.proofs.Plans.{few_actions, starts_below}
use Rattle.ledger_start.proofs.fixed.waiting.Goals as goal

pub dependent_rows-requires-clause-small : goal.dependent_rows-requires-clause-small
dependent_rows-requires-clause-small c =
    let few = few_actions c.args.outset.now.declared.now c.args.outset.now.observed.now c.args.outset.now.plan.now c.args.outset.now.limits c.requires.may in
    let n : length c.as_slice-actions.result.now ≡ length c.args.outset.now.plan.now.actions = ap length c.as_slice-actions.ensures in
    omega (arith, few, n)

pub dependent_rows-requires-clause-needs : goal.dependent_rows-requires-clause-needs
dependent_rows-requires-clause-needs c =
    subst (λ (actions : List Action). (a b : ℕ) → Among (needs_of actions a) b → b < length actions) (sym c.as_slice-actions.ensures) c.requires.may.orderly.there

pub dependent_rows-requires-clause-starts : goal.dependent_rows-requires-clause-starts
dependent_rows-requires-clause-starts c = λ s b e.
    let k = starts_below (start_setup c.args.outset.now) c.args.starts.now c.requires.starts s b e in
    let n : length c.as_slice-actions.result.now ≡ length c.args.outset.now.plan.now.actions = ap length c.as_slice-actions.ensures in
    omega (arith, k, n)

pub returns-clause-turned : goal.returns-clause-turned
returns-clause-turned c =
    subst (λ (actions : List Action). (x a : ℕ) → counted (λ b. b == a) (get_or c.in_ok-rows.rows x []) ≡ waited c.args.wait c.args.outset.now.declared.now actions c.args.starts.now a x) c.as_slice-actions.ensures
    c.in_ok-rows.ensures.each
