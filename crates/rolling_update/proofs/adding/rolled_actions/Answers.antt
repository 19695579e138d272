-- The plan's actions with what they need in a run are the run's.
use Rattle.std.proofs.Common.{◌≡◌, ◌∙◌, IfOk, List, ap, map, subst, sym}
use Rattle.engine_types.specs.declared.Action.{Action}
use Rattle.rolling_update.specs.Needs.{Given, HasNeeds, IsUpPlan, awaiting}
use Rattle.rolling_update.proofs.Joining.{are_runs, has_needs}
use Rattle.rolling_update.proofs.adding.rolled_actions.Goals as goal

pub rolled_slots-requires : goal.rolled_slots-requires
rolled_slots-requires c = subst (λ (given : Given). IsUpPlan given.scene.declared given.scene.seen given.actions) (sym c.in_ok-finder.ensures) c.requires.planned

pub all_rolled-requires : goal.all_rolled-requires
all_rolled-requires c =
    let given : Given = record { scene = record { declared = c.args.declared.now; seen = c.args.seen.now }; actions = c.args.actions.now } in
    let same : given ≡ c.new-table.result = sym (c.new-table.ensures ∙ c.in_ok-finder.ensures) in
    record {
      same = ap (λ (g : Given). g.actions) same;
      needs = subst HasNeeds same (has_needs given c.requires.planned.0 c.requires.planned.1);
    }

pub returns : goal.returns
returns c = λ orphans is.
    let given : Given = record { scene = record { declared = c.args.declared.now; seen = c.args.seen.now }; actions = c.args.actions.now } in
    subst (λ (actions : List Action). IfOk c.all_rolled.result (λ all. all ≡ actions))
    (ap (λ (g : Given). map (awaiting g) c.args.actions.now) (c.new-table.ensures ∙ c.in_ok-finder.ensures) ∙ are_runs given orphans is)
    c.all_rolled.ensures
