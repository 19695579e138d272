use Rattle.std.proofs.Common.{None, refl, subst}
use Rattle.compose_cli.specs.Dialling.{IsDialAt}
use Rattle.ledger_run.specs.Tellings.{telling}
use Rattle.repeated_runs.proofs.Places.{attempts_at, attempts_said, attempts_unplaced, said_first}
use Rattle.repeated_runs.proofs.Steps.{task_same}
use Rattle.repeated_runs.specs.Attempts.{AreAttempts}
use Rattle.repeated_runs.specs.Dials.{IsDialHere}
use Rattle.repeated_runs.specs.Followings.{task_by}
use Rattle.repeated_runs.specs.Moments.{moment}
use Rattle.run_model.specs.Runs.{Task}
use Rattle.repeated_runs.proofs.running.run_declared.Goals as goal

pub said-requires : goal.said-requires
said-requires g c = c.run_again-attempts.ensures.last.status

pub returns-clause-attempts : goal.returns-clause-attempts
returns-clause-attempts g c =
    subst (λ (t : Task). AreAttempts (λ h. telling (g.P.Hand.Hand.log h) (g.P.Hand.Hand.heard h) (g.P.Hand.Hand.faults h) (g.P.Hand.Hand.clock h) (g.P.Hand.Hand.engine h)) (IsDialAt c.args.place) c.args.workers t c.said.result (moment (g.P.Plug.dials c.args.plug.now) (g.P.Plug.dialled c.args.plug.now) (g.P.Plug.faults c.args.plug.now) (g.O.Sink.written c.args.out.now) (g.O.Sink.faults c.args.out.now)) (moment (g.P.Plug.dials c.run_again-attempts.new.plug) (g.P.Plug.dialled c.run_again-attempts.new.plug) (g.P.Plug.faults c.run_again-attempts.new.plug) (g.O.Sink.written c.run_again-attempts.new.out) (g.O.Sink.faults c.run_again-attempts.new.out)))
    (task_same (λ h. telling (g.P.Hand.Hand.log h) (g.P.Hand.Hand.heard h) (g.P.Hand.Hand.faults h) (g.P.Hand.Hand.clock h) (g.P.Hand.Hand.engine h)) c.args.declared c.args.aim c.args.options c.args.workers c.run_again-attempts.result.earlier c.said.result.earlier c.run_again-attempts.result.last c.said.result.last
    (said_first c.run_again-attempts.result c.said.result c.said.ensures.earlier c.said.ensures.last))
    (attempts_at (λ h. telling (g.P.Hand.Hand.log h) (g.P.Hand.Hand.heard h) (g.P.Hand.Hand.faults h) (g.P.Hand.Hand.clock h) (g.P.Hand.Hand.engine h)) (IsDialHere c.in-Ok.place) (IsDialAt c.args.place) (λ n dial is. (c.in-Ok.place, c.in-Ok.is, is)) c.args.workers (task_by (λ h. telling (g.P.Hand.Hand.log h) (g.P.Hand.Hand.heard h) (g.P.Hand.Hand.faults h) (g.P.Hand.Hand.clock h) (g.P.Hand.Hand.engine h)) c.args.declared c.args.aim c.args.options c.args.workers c.run_again-attempts.result.earlier c.run_again-attempts.result.last) c.said.result
    (moment (g.P.Plug.dials c.args.plug.now) (g.P.Plug.dialled c.args.plug.now) (g.P.Plug.faults c.args.plug.now) (g.O.Sink.written c.args.out.now) (g.O.Sink.faults c.args.out.now))
    (moment (g.P.Plug.dials c.run_again-attempts.new.plug) (g.P.Plug.dialled c.run_again-attempts.new.plug) (g.P.Plug.faults c.run_again-attempts.new.plug) (g.O.Sink.written c.run_again-attempts.new.out) (g.O.Sink.faults c.run_again-attempts.new.out))
    (attempts_said (λ h. telling (g.P.Hand.Hand.log h) (g.P.Hand.Hand.heard h) (g.P.Hand.Hand.faults h) (g.P.Hand.Hand.clock h) (g.P.Hand.Hand.engine h)) (IsDialHere c.in-Ok.place) c.args.workers (task_by (λ h. telling (g.P.Hand.Hand.log h) (g.P.Hand.Hand.heard h) (g.P.Hand.Hand.faults h) (g.P.Hand.Hand.clock h) (g.P.Hand.Hand.engine h)) c.args.declared c.args.aim c.args.options c.args.workers c.run_again-attempts.result.earlier c.run_again-attempts.result.last) c.run_again-attempts.result c.said.result
    (moment (g.P.Plug.dials c.args.plug.now) (g.P.Plug.dialled c.args.plug.now) (g.P.Plug.faults c.args.plug.now) (g.O.Sink.written c.args.out.now) (g.O.Sink.faults c.args.out.now))
    (moment (g.P.Plug.dials c.run_again-attempts.new.plug) (g.P.Plug.dialled c.run_again-attempts.new.plug) (g.P.Plug.faults c.run_again-attempts.new.plug) (g.O.Sink.written c.run_again-attempts.new.out) (g.O.Sink.faults c.run_again-attempts.new.out))
    c.said.ensures.earlier c.said.ensures.last c.said.ensures.looker c.run_again-attempts.ensures))

pub returns-in_default-clause-attempts : goal.returns-in_default-clause-attempts
returns-in_default-clause-attempts g c =
    attempts_unplaced (λ h. telling (g.P.Hand.Hand.log h) (g.P.Hand.Hand.heard h) (g.P.Hand.Hand.faults h) (g.P.Hand.Hand.clock h) (g.P.Hand.Hand.engine h)) (IsDialAt c.args.place) c.args.workers (task_by (λ h. telling (g.P.Hand.Hand.log h) (g.P.Hand.Hand.heard h) (g.P.Hand.Hand.faults h) (g.P.Hand.Hand.clock h) (g.P.Hand.Hand.engine h)) c.args.declared c.args.aim c.args.options c.args.workers c.new.result c.refused.result) (record { earlier = c.new.result; last = c.refused.result; looker = None })
    (moment (g.P.Plug.dials c.args.plug.now) (g.P.Plug.dialled c.args.plug.now) (g.P.Plug.faults c.args.plug.now) (g.O.Sink.written c.args.out.now) (g.O.Sink.faults c.args.out.now))
    c.new.ensures refl c.refused.ensures.nothing.1 c.refused.ensures.nothing.0 c.refused.ensures.refusal c.refused.ensures.status
