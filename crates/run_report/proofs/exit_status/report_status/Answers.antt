use Rattle.std.proofs.Common.{Option, ap}
use Rattle.std.specs.Option.{option_map_or}
use Rattle.std.specs.Prelude.{option_map}
use Rattle.engine_types.specs.declared.Condition.{Condition}
use Rattle.engine_types.specs.declared.RunFault.{RunFault}
use Rattle.run_model.specs.Ending.{fault_status, slot_name}
use Rattle.run_requests.specs.Setups.{setup_of}
use Rattle.run_report.proofs.exit_status.report_status.Goals as goal

pub returns-in-Some : goal.returns-in-Some
returns-in-Some c =
    let run = c.args.run.now in
    ap (λ (o : Option Condition). option_map_or fault_status (option_map (λ (condition : Condition). RunFault.Condition (slot_name (setup_of run) c.args.slot) condition c.args.report.now) o) 0) c.in-Some.ensures

pub returns-in-None : goal.returns-in-None
returns-in-None c =
    let run = c.args.run.now in
    ap (λ (o : Option Condition). option_map_or fault_status (option_map (λ (condition : Condition). RunFault.Condition (slot_name (setup_of run) c.args.slot) condition c.args.report.now) o) 0) c.in-None.ensures
