use Rattle.observe_project.proofs.Readings.{reads-no_volumes, reads-volumes}
use Rattle.observe_project.proofs.listing.read_volumes.Goals as goal

pub returns-in-Some : goal.returns-in-Some
returns-in-Some c = λ declared purpose is.
    reads-volumes declared purpose c.args.seen c.args.exchange.now.request c.args.exchange.now.outcome c.in-Some.names.now c.see_volumes.result c.or_memory.result c.in-Some.ensures c.see_volumes.ensures c.or_memory.ensures

pub returns-in-None : goal.returns-in-None
returns-in-None c = λ declared purpose is. reads-no_volumes declared purpose c.args.seen c.args.exchange.now.request c.args.exchange.now.outcome c.fault_in.result c.in-None.ensures is c.fault_in.ensures
