-- What the latest entry that says how the action stands told.
use Rattle.std.proofs.Common.{◌∙◌, ap}
use Rattle.std.specs.Prelude.{reverse}
use Rattle.run_model.specs.Requests.{made_id}
use Rattle.run_requests.specs.Setups.{setup_of}
use Rattle.run_report.proofs.Tellings.{stands_by, stands_free}
use Rattle.run_report.proofs.ids.told_id.Goals as goal

pub returns-in-Some : goal.returns-in-Some
returns-in-Some c =
    let run = c.args.run.now in
    c.told_by.ensures ∙ ap made_id (stands_by (setup_of run) (reverse c.args.past.now) c.args.action c.in-Some.entry.now c.in-Some.ensures)

pub returns-in-None : goal.returns-in-None
returns-in-None c =
    let run = c.args.run.now in
    ap made_id (stands_free (setup_of run) (reverse c.args.past.now) c.args.action c.in-None.ensures)
