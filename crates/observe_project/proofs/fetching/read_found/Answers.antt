use Rattle.std.proofs.Common.{sym, ◌∙◌}
use Rattle.observe_project.proofs.Readings.{reads-found, reads-missing, reads-no_first}
use Rattle.observe_project.proofs.fetching.read_found.Goals as goal

pub returns-then-tells_missing : goal.returns-then-tells_missing
returns-then-tells_missing c = λ builder image onward each is. reads-missing image onward builder c.args.exchange.now.request c.args.exchange.now.outcome (sym c.if-tells_missing.true ∙ c.tells_missing.ensures)

pub returns-in-Some : goal.returns-in-Some
returns-in-Some c = λ builder image onward each is.
    reads-found image onward builder each c.args.exchange.now.request c.args.exchange.now.outcome c.in-Some.id.now c.found.result c.or_memory.result c.in-Some.ensures c.found.ensures c.or_memory.ensures

pub returns-in-None : goal.returns-in-None
returns-in-None c = λ builder image onward each is.
    reads-no_first image onward builder c.args.exchange.now.request c.args.exchange.now.outcome c.fault_in.result c.in-None.ensures (sym c.if-tells_missing.false ∙ c.tells_missing.ensures) is c.fault_in.ensures
