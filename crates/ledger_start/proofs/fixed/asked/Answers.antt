use Rattle.std.proofs.Common.{◌≡◌, ◌<◌, ◌==◌, ℕ, [], List, length, get_or, ap, subst, arith}
use Rattle.engine_types.specs.declared.Action.{Action}
use Rattle.run_model.specs.Plans.{kind_of, slot_needs}
use Rattle.ledger_rows.specs.Counts.{counted}
use Rattle.start_rows.specs.Asks.{asked_by}
use Rattle.ledger_start.proofs.Plans.{few_actions}
use Rattle.ledger_start.proofs.fixed.asked.Goals as goal

pub asking_rows-requires : goal.asking_rows-requires
asking_rows-requires c =
    let few = few_actions c.args.outset.now.declared.now c.args.outset.now.observed.now c.args.outset.now.plan.now c.args.outset.now.limits c.requires in
    let n : length c.as_slice-actions.result.now ≡ length c.args.outset.now.plan.now.actions = ap length c.as_slice-actions.ensures in
    omega (arith, few, n)

pub returns-clause-each : goal.returns-clause-each
returns-clause-each c =
    subst (λ (actions : List Action). (s a : ℕ) → s < length c.args.outset.now.declared.now.slots → counted (λ b. b == a) (get_or c.in_ok-rows.rows s []) ≡ counted (asked_by c.args.ask s c.args.condition) (slot_needs c.args.outset.now.declared.now (kind_of actions a)))
    c.as_slice-actions.ensures c.in_ok-rows.ensures.each
