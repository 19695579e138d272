use Rattle.observe_project.proofs.Readings.{reads-containers, reads-no_containers}
use Rattle.observe_project.proofs.listing.read_containers.Goals as goal

pub returns-in-Some : goal.returns-in-Some
returns-in-Some c = λ declared purpose is.
    reads-containers declared purpose c.args.exchange.now.request c.args.exchange.now.outcome c.in-Some.rows.now c.see_containers.result c.or_memory.result c.in-Some.ensures (rw c.as_slice.ensures at c.see_containers.ensures) c.or_memory.ensures

pub returns-in-None : goal.returns-in-None
returns-in-None c = λ declared purpose is. reads-no_containers declared purpose c.args.exchange.now.request c.args.exchange.now.outcome c.fault_in.result c.in-None.ensures is c.fault_in.ensures
