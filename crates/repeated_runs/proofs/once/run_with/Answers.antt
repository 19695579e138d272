use Rattle.std.proofs.Common.{length, subst}
use Rattle.compose_cli.specs.Runs.{first_reading}
use Rattle.engine_types.specs.declared.RunLimits.{RunLimits}
use Rattle.ledger_run.specs.Tellings.{telling}
use Rattle.project_run.specs.Options.{limits_in}
use Rattle.project_run.specs.Whole.{task_of}
use Rattle.repeated_runs.proofs.Ran.{broke, is_left, none_left, run_with, writes_whole}
use Rattle.repeated_runs.proofs.Refusals.{memory_refusal, no_conflict}
use Rattle.repeated_runs.specs.Onces.{IsRunWith, WritesWhole}
use Rattle.repeated_runs.proofs.once.run_with.Goals as goal

pub run_new-ran-requires-clause-small : goal.run_new-ran-requires-clause-small
run_new-ran-requires-clause-small g c κs within = λ slot m. (c.requires.own slot m).number

pub returns-clause-hands : goal.returns-clause-hands
returns-clause-hands g c = c.run_new-ran.ensures.hands

pub returns-clause-run : goal.returns-clause-run
returns-clause-run g c = subst (λ (limits : RunLimits). IsRunWith (λ h. telling (g.H.Hand.log h) (g.H.Hand.heard h) (g.H.Hand.faults h) (g.H.Hand.clock h) (g.H.Hand.engine h)) (task_of c.args.declared c.args.aim limits) (record { status = c.status_of.result; journal = c.run_new-ran.result.ran.journal; hands = c.run_new-ran.result.hands; refusal = c.refusal_after-refusal.result }) (g.O.Sink.written c.args.out.now) (g.O.Sink.written c.write_text-whole.new.out) (g.O.Sink.faults c.args.out.now) (g.O.Sink.faults c.write_text-whole.new.out)) c.run_new-ran.ensures.limits
    (run_with (λ h. telling (g.H.Hand.log h) (g.H.Hand.heard h) (g.H.Hand.faults h) (g.H.Hand.clock h) (g.H.Hand.engine h)) (task_of c.args.declared c.args.aim c.run_new-ran.result.limits)
    (record { status = c.status_of.result; journal = c.run_new-ran.result.ran.journal; hands = c.run_new-ran.result.hands; refusal = c.refusal_after-refusal.result }) c.run_new-ran.result.ran.report c.run_new-ran.result.ran.fault c.write_text-whole.result (g.O.Sink.written c.args.out.now) (g.O.Sink.written c.write_text-whole.new.out) (g.O.Sink.faults c.args.out.now) (g.O.Sink.faults c.write_text-whole.new.out)
    c.run_new-ran.ensures.report c.write_text-whole.ensures c.refusal_after-refusal.ensures
    c.requires.whole (λ slot m. (c.requires.own slot m).number) c.requires.own c.run_new-ran.ensures.runs c.run_new-ran.ensures.fault c.status_of.ensures c.args.hands c.requires.unused c.run_new-ran.ensures.empty)

pub returns-clause-reported : goal.returns-clause-reported
returns-clause-reported g c = λ whole. subst (λ (limits : RunLimits). WritesWhole (task_of c.args.declared c.args.aim limits) (record { status = c.status_of.result; journal = c.run_new-ran.result.ran.journal; hands = c.run_new-ran.result.hands; refusal = c.refusal_after-refusal.result }) (g.O.Sink.written c.args.out.now) (g.O.Sink.written c.write_text-whole.new.out)) c.run_new-ran.ensures.limits
    (writes_whole (λ h. telling (g.H.Hand.log h) (g.H.Hand.heard h) (g.H.Hand.faults h) (g.H.Hand.clock h) (g.H.Hand.engine h)) (task_of c.args.declared c.args.aim c.run_new-ran.result.limits)
    (record { status = c.status_of.result; journal = c.run_new-ran.result.ran.journal; hands = c.run_new-ran.result.hands; refusal = c.refusal_after-refusal.result }) c.run_new-ran.result.ran.report c.run_new-ran.result.ran.fault c.write_text-whole.result (g.O.Sink.written c.args.out.now) (g.O.Sink.written c.write_text-whole.new.out) (g.O.Sink.faults c.args.out.now) (g.O.Sink.faults c.write_text-whole.new.out)
    c.run_new-ran.ensures.report c.write_text-whole.ensures c.refusal_after-refusal.ensures whole)

pub returns-clause-broken : goal.returns-clause-broken
returns-clause-broken g c = λ broken. broke (λ h. telling (g.H.Hand.log h) (g.H.Hand.heard h) (g.H.Hand.faults h) (g.H.Hand.clock h) (g.H.Hand.engine h)) (task_of c.args.declared c.args.aim c.run_new-ran.result.limits)
    (record { status = c.status_of.result; journal = c.run_new-ran.result.ran.journal; hands = c.run_new-ran.result.hands; refusal = c.refusal_after-refusal.result }) c.run_new-ran.result.ran.report c.run_new-ran.result.ran.fault c.write_text-whole.result (g.O.Sink.written c.args.out.now) (g.O.Sink.written c.write_text-whole.new.out) (g.O.Sink.faults c.args.out.now) (g.O.Sink.faults c.write_text-whole.new.out)
    c.run_new-ran.ensures.report c.write_text-whole.ensures c.refusal_after-refusal.ensures broken

pub returns-clause-left : goal.returns-clause-left
returns-clause-left g c = is_left c.args.declared c.run_new-ran.result.declared c.left_of.result c.run_new-ran.result.limits (limits_in (length c.args.hands) c.args.options c.args.given (first_reading (λ h. g.H.Hand.clock h) c.run_new-ran.result.hands))
    c.left_of.ensures.none c.left_of.ensures.some c.run_new-ran.ensures.back c.run_new-ran.ensures.limits

pub returns-clause-lost : goal.returns-clause-lost
returns-clause-lost g c = λ none. no_conflict c.refusal_after-refusal.result (memory_refusal c.run_new-ran.result.ran.fault c.write_text-whole.result c.refusal_after-refusal.result c.refusal_after-refusal.ensures
    (c.run_new-ran.ensures.lost (none_left c.run_new-ran.result.declared c.left_of.result c.run_new-ran.result.limits c.left_of.ensures.some none)))
