-- A worker holds what its latest claim, poll or end says.
use Rattle.std.proofs.Common.{◌∙◌, sym, ap}
use Rattle.std.specs.Prelude.{reverse}
use Rattle.run_report.specs.Permits.{permit_of}
use Rattle.run_report.proofs.Holdings.{holding_is}
use Rattle.run_report.proofs.held.held_after.Goals as goal

pub returns : goal.returns
returns c = c.permitted.ensures ∙ ap permit_of c.latest_turn.ensures ∙ sym (holding_is (reverse c.args.past.now) c.args.worker)
