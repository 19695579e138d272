use Rattle.observe_project.proofs.Walks.{asked-one}
use Rattle.observe_project.proofs.asking.ask.Goals as goal

pub returns-in-Ok-clause-asked : goal.returns-in-Ok-clause-asked
returns-in-Ok-clause-asked g c =
    let e = c.exchange-outcome.ensures in
    asked-one c.args.request c.in-Ok.kept c.exchange-outcome.result _ _ c.in-Ok.ensures.copied e.told
    (record { logged = e.log; hears = e.heard; counted = e.counted; unsent = e.unsent_faults; cause = e.cause }) e.clock
