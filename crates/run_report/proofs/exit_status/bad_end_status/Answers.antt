use Rattle.std.proofs.Common.{◌∙◌}
use Rattle.run_report.proofs.StatusLaws.{seen_law}
use Rattle.run_report.proofs.exit_status.bad_end_status.Goals as goal

pub returns : goal.returns
returns c = c.seen_status.ensures ∙ seen_law c.args.fault.now
