use Rattle.std.proofs.Common.{ap, sym}
use Rattle.logs_run.specs.Refusing.{said_of}
use Rattle.logs_run.proofs.Refusals.{slot_there}
use Rattle.logs_run.proofs.ending.fault_refusal.Goals as goal

pub returns-in-Failed : goal.returns-in-Failed
returns-in-Failed c =
    let there = slot_there c.args.declared.now c.args.fault.slot c.requires in
    (there.0, there.1, sym (ap (said_of there.0) c.in-Failed.is))
