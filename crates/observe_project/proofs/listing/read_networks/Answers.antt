use Rattle.observe_project.proofs.Readings.{reads-no_networks, reads-networks}
use Rattle.observe_project.proofs.listing.read_networks.Goals as goal

pub returns-in-Some : goal.returns-in-Some
returns-in-Some c = λ declared purpose is.
    reads-networks declared purpose c.args.seen c.args.exchange.now.request c.args.exchange.now.outcome c.in-Some.rows.now c.see_networks.result c.or_memory.result c.in-Some.ensures c.see_networks.ensures c.or_memory.ensures

pub returns-in-None : goal.returns-in-None
returns-in-None c = λ declared purpose is. reads-no_networks declared purpose c.args.seen c.args.exchange.now.request c.args.exchange.now.outcome c.fault_in.result c.in-None.ensures is c.fault_in.ensures
