use Rattle.std.proofs.Common.{subst, sym}
use Rattle.std.specs.Prelude.{Option}
use Rattle.compose_cli.proofs.Ran.{after_origin, after_refused, after_reports}
use Rattle.compose_cli.specs.Runs.{IsRefusalOf, Reports}
use Rattle.refusals.specs.Origins.{IsOfRun}
use Rattle.refusals.specs.declared.Refusal.{Refusal}
use Rattle.compose_cli.proofs.run.write_report.Goals as goal

pub returns-clause-refused : goal.returns-clause-refused
returns-clause-refused g c = subst (λ (r : Option Refusal). IsRefusalOf c.args.fault (g.O.Sink.faults c.args.out.now) (g.O.Sink.faults c.write_text-whole.new.out) r) (sym c.refusal_after.ensures)
    (after_refused c.args.fault c.write_text-whole.result c.args.report.now (g.O.Sink.written c.args.out.now) (g.O.Sink.written c.write_text-whole.new.out) (g.O.Sink.faults c.args.out.now) (g.O.Sink.faults c.write_text-whole.new.out) c.write_text-whole.ensures)

pub returns-clause-origin : goal.returns-clause-origin
returns-clause-origin g c = subst IsOfRun (sym c.refusal_after.ensures) (after_origin c.args.fault c.write_text-whole.result)

pub returns-clause-written : goal.returns-clause-written
returns-clause-written g c = subst (λ (r : Option Refusal). Reports c.args.report.now r (g.O.Sink.written c.args.out.now) (g.O.Sink.written c.write_text-whole.new.out) (g.O.Sink.faults c.args.out.now) (g.O.Sink.faults c.write_text-whole.new.out)) (sym c.refusal_after.ensures)
    (after_reports c.args.fault c.write_text-whole.result c.args.report.now (g.O.Sink.written c.args.out.now) (g.O.Sink.written c.write_text-whole.new.out) (g.O.Sink.faults c.args.out.now) (g.O.Sink.faults c.write_text-whole.new.out) c.write_text-whole.ensures)
