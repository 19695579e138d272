use Rattle.logs_run.proofs.PartEntries.{adds_entry, may_call}
use Rattle.logs_run.proofs.adding.add.Goals as goal

pub act-requires-clause-may : goal.act-requires-clause-may
act-requires-clause-may g c = may_call c.args.turns.now c.args.seat.now.view c.args.slot c.args.lines c.requires.fetcher.empty c.requires.may c.requires.fewer

pub returns-clause-adds : goal.returns-clause-adds
returns-clause-adds g c = adds_entry c.args.turns.now.object c.args.seat.now.view c.act.new.seat.view c.args.slot c.args.lines c.act.result c.requires.fetcher.empty c.act.ensures.acts
