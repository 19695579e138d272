-- Whether the latest entry that says how the action stands is its good end.
use Rattle.std.proofs.Common.{◌∙◌, ap}
use Rattle.std.specs.Prelude.{reverse}
use Rattle.run_model.specs.Journals.{is_well}
use Rattle.run_requests.specs.Setups.{setup_of}
use Rattle.run_report.proofs.Tellings.{stands_by, stands_free}
use Rattle.run_report.proofs.standings.stands_well.Goals as goal

pub returns-in-Some : goal.returns-in-Some
returns-in-Some c =
    let run = c.args.run.now in
    c.is_well_by.ensures ∙ ap is_well (stands_by (setup_of run) (reverse c.args.past.now) c.args.action c.in-Some.entry.now c.in-Some.ensures)

pub returns-in-None : goal.returns-in-None
returns-in-None c =
    let run = c.args.run.now in
    ap is_well (stands_free (setup_of run) (reverse c.args.past.now) c.args.action c.in-None.ensures)
