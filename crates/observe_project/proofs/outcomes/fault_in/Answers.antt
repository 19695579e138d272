use Rattle.observe_project.proofs.Readings.{or_memory-fault}
use Rattle.run_model.specs.Observation.{fault_in}
use Rattle.observe_project.proofs.outcomes.fault_in.Goals as goal

pub returns : goal.returns
returns c = or_memory-fault c.copy_fault.result (fault_in c.args.exchange.now.request c.args.exchange.now.outcome) c.fault_or_memory.result c.copy_fault.ensures c.fault_or_memory.ensures
