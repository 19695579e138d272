-- One after the other.
use Rattle.engine_types.specs.declared.ActionKind.TheVariants.{RemoveContainer, StopContainer}
use Rattle.run_model.specs.Plans.{is_wanted}
use Rattle.plan_core.proofs.Rows.{two_pushed}
use Rattle.plan_core.proofs.planner.Planner.push_ends.Goals as goal

pub returns : goal.returns
returns c =
    two_pushed (is_wanted c.args.self.now) c.args.kinds.now c.push_wanted.new.kinds c.push_wanted-2.new.kinds (StopContainer c.args.container) (RemoveContainer c.args.container)
    c.in_ok-push_wanted.ensures c.in_ok-push_wanted-2.ensures
