use Rattle.observe_project.proofs.Readings.{reads-id, reads-no_id}
use Rattle.observe_project.proofs.fetching.read_id.Goals as goal

pub returns-in-Some : goal.returns-in-Some
returns-in-Some c = λ image onward each is.
    reads-id image onward each c.args.exchange.now.request c.args.exchange.now.outcome c.in-Some.id.now c.copy.result c.or_memory.result c.in-Some.ensures c.copy.ensures c.or_memory.ensures

pub returns-in-None : goal.returns-in-None
returns-in-None c = λ image onward each is. reads-no_id image onward c.args.exchange.now.request c.args.exchange.now.outcome c.fault_in.result c.in-None.ensures is c.fault_in.ensures
