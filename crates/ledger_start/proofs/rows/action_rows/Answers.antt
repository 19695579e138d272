use Rattle.std.proofs.Common.{◌≡◌, ◌<◌, ◌+◌, ℕ, [], ◌∷◌, List, length, get_or, ap, ◌∙◌, subst, arith}
use Rattle.engine_types.specs.declared.Action.{Action}
use Rattle.engine_types.specs.declared.Entry.{Entry}
use Rattle.run_model.specs.Plans.{kind_of, needs_of, slot_needs}
use Rattle.start_rows.specs.Firsts.{first_lack}
use Rattle.start_rows.proofs.Reading.{actions_say}
use Rattle.ledger_start.specs.Outsets.{start_setup}
use Rattle.ledger_start.proofs.Plans.{few_actions, few_needs}
use Rattle.ledger_start.proofs.Starts.{free_said}
use Rattle.ledger_start.proofs.rows.action_rows.Goals as goal

pub new-requires : goal.new-requires
new-requires c =
    let few = few_actions c.args.outset.now.declared.now c.args.outset.now.observed.now c.args.outset.now.plan.now c.args.outset.now.limits c.requires.may in
    let n : length c.as_slice-actions.result.now ≡ length c.args.outset.now.plan.now.actions = ap length c.as_slice-actions.ensures in
    omega (arith, few, n, c.in_ok-lacks.ensures.size)

pub returns-clause-said : goal.returns-clause-said
returns-clause-said c =
    free_said (start_setup c.args.outset.now) (Entry.Seen c.args.outset.now.observed.now ∷ []) c.in_ok-rows.rows c.in_ok-lacks.lacks.items c.in_ok-rows.ensures.states c.in_ok-rows.ensures.lacks
    (actions_say (start_setup c.args.outset.now) c.args.outset.now.observed.now c.args.starts.now c.in_ok-lacks.lacks.items c.requires.starts
    (c.in_ok-lacks.ensures.size ∙ ap length c.as_slice-actions.ensures)
    (subst (λ (actions : List Action). (a : ℕ) → a < length actions → get_or c.in_ok-lacks.lacks.items a 0 ≡ first_lack c.args.outset.now.declared.now actions c.args.starts.now a) c.as_slice-actions.ensures c.in_ok-lacks.ensures.each))

pub returns-clause-few : goal.returns-clause-few
returns-clause-few c = few_needs c.args.outset.now.declared.now c.args.outset.now.plan.now.actions
    (subst (λ (actions : List Action). (a : ℕ) → a < length actions → length (needs_of actions a) + length (slot_needs c.args.outset.now.declared.now (kind_of actions a)) < 4294967296) c.as_slice-actions.ensures c.in_ok-lacks.ensures.few)
