use Rattle.std.proofs.Common.{sym, ◌∙◌}
use Rattle.observe_project.proofs.Readings.{or_memory-fault, reads-no_pull, reads-pull_error, reads-pulled}
use Rattle.engine_types.specs.declared.SeenFault.{SeenFault}
use Rattle.observe_project.proofs.fetching.read_pull.Goals as goal

pub returns-then-tells_pulled : goal.returns-then-tells_pulled
returns-then-tells_pulled c = λ onward is. reads-pulled c.args.image.now onward c.args.exchange.now.request c.args.exchange.now.outcome (sym c.if-tells_pulled.true ∙ c.tells_pulled.ensures)

pub returns-in-Some : goal.returns-in-Some
returns-in-Some c = λ onward is.
    reads-pull_error c.args.image.now onward c.args.exchange.now.request c.args.exchange.now.outcome c.in-Some.message.now c.fault_or_memory.result c.in-Some.ensures
    (or_memory-fault c.pull_failed.result (SeenFault.PullFailed c.args.image.now c.in-Some.message.now) c.fault_or_memory.result c.pull_failed.ensures c.fault_or_memory.ensures)

pub returns-in-None : goal.returns-in-None
returns-in-None c = λ onward is.
    reads-no_pull c.args.image.now onward c.args.exchange.now.request c.args.exchange.now.outcome c.fault_in.result (sym c.if-tells_pulled.false ∙ c.tells_pulled.ensures) c.in-None.ensures is c.fault_in.ensures
