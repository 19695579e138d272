-- The starts' needs come before the goal.
use Rattle.std.proofs.Common.{◌∙◌, Option, sym, ap}
use Rattle.std.specs.Option.{option_or}
use Rattle.engine_types.specs.declared.Condition.{Condition}
use Rattle.run_requests.specs.Setups.{setup_of}
use Rattle.run_report.specs.Conditions.{failed_goal}
use Rattle.run_report.proofs.conditions.failed_wanted.Goals as goal

pub returns-in-Some : goal.returns-in-Some
returns-in-Some c =
    let run = c.args.run.now in
    ap (λ (o : Option Condition). option_or o (failed_goal (setup_of run) c.args.slot c.args.report.now)) (sym c.in-Some.is ∙ c.requires)

pub returns-in-None : goal.returns-in-None
returns-in-None c =
    let run = c.args.run.now in
    c.failed_goal.ensures
    ∙ ap (λ (o : Option Condition). option_or o (failed_goal (setup_of run) c.args.slot c.args.report.now)) (sym c.in-None.is ∙ c.requires)
