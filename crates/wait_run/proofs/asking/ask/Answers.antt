use Rattle.wait_run.proofs.Making.{asked_one}
use Rattle.wait_run.proofs.asking.ask.Goals as goal

pub returns-in-Ok : goal.returns-in-Ok
returns-in-Ok g c =
    let e = c.exchange-outcome.ensures in
    asked_one c.args.request c.in-Ok.kept c.exchange-outcome.result _ _ c.in-Ok.ensures e.told
    (record { logged = e.log; hears = e.heard; counted = e.counted; unsent = e.unsent_faults; cause = e.cause }) e.clock
