-- The first start of which the report fails something.
use Rattle.std.proofs.Common.{◌∙◌, length, sym, arith}
use Rattle.std.specs.Prelude.{reverse}
use Rattle.run_requests.specs.Setups.{setup_of}
use Rattle.run_report.specs.Conditions.{failed_by_start}
use Rattle.run_report.proofs.Numbers.{none_from, passed_some, stopped_some}
use Rattle.run_report.proofs.conditions.failed_by_starts.Goals as goal

pub loop-at-preserved : goal.loop-at-preserved
loop-at-preserved c =
    let run = c.args.run.now in
    sym (passed_some (failed_by_start (setup_of run) (reverse c.args.past.now) c.args.slot c.args.report.now) c.loop-at.at (length run.plan.now.actions) (omega arith)
    (sym c.failed_by_start.ensures ∙ none_from c.failed_by_start.result c.in_default.not-Some))
    ∙ c.loop-at.invariant

pub returns-in-Some : goal.returns-in-Some
returns-in-Some c =
    let run = c.args.run.now in
    sym (stopped_some (failed_by_start (setup_of run) (reverse c.args.past.now) c.args.slot c.args.report.now) c.loop-at.at (length run.plan.now.actions) (omega arith)
    c.in-Some.condition (sym c.in-Some.ensures))
    ∙ c.loop-at.invariant
