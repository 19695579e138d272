use Rattle.std.proofs.Common.{◌≡◌, ℕ, List, Option, None, length, get_or, ap, ◌∙◌, arith}
use Rattle.run_model.specs.Plans.{basis_of}
use Rattle.engine_types.specs.declared.Action.{Action}
use Rattle.plan_rows.specs.Firsts.{first_of}
use Rattle.start_rows.proofs.Starting.{firsts}
use Rattle.ledger_start.proofs.Plans.{few_actions}
use Rattle.ledger_start.proofs.actions.first_actions.Goals as goal

pub first_rows-requires : goal.first_rows-requires
first_rows-requires c =
    let few = few_actions c.args.outset.now.declared.now c.args.outset.now.observed.now c.args.outset.now.plan.now c.args.outset.now.limits c.requires in
    let n : length c.as_slice.result.now ≡ length c.args.outset.now.plan.now.actions = ap length c.as_slice.ensures in
    omega (arith, few, n)

pub returns-clause-each : goal.returns-clause-each
returns-clause-each c = λ s. ap (λ (places : List (Option ℕ)). get_or places s None) c.from_vec.ensures
    ∙ firsts (basis_of c.args.outset.now.declared.now c.requires.seen c.requires.aim) c.args.outset.now.plan.now.actions c.requires.has_plan c.args.row c.in_ok-places.places.items
    (c.in_ok-places.ensures.size ∙ c.in_ok-count.ensures.same)
    (λ t l. c.in_ok-places.ensures.each t (let e = c.in_ok-count.ensures.same in omega (arith, l, e)) ∙ ap (λ (actions : List Action). first_of c.args.row actions t) c.as_slice.ensures) s
