-- What a worker ends is what it held.
use Rattle.std.proofs.Common.{◌≡◌, sym}
use Rattle.std.specs.Prelude.{reverse}
use Rattle.run_model.specs.Journals.{Work, holding}
use Rattle.run_report.proofs.reporting.end_line.Goals as goal

pub returns-in-Work : goal.returns-in-Work
returns-in-Work c =
    let held : holding (reverse c.args.past.now) c.args.worker ≡ Work c.in-Work.action = sym c.in-Work.ensures in
    rw held c.ended_line.ensures
