use Rattle.std.proofs.Common.{◌≡◌, List, arith, refl, subst, sym}
use Rattle.ledger_run.specs.Tellings.{telling}
use Rattle.repeated_runs.proofs.Steps.{goes_on, is_over, one_more_far, the_fit}
use Rattle.repeated_runs.specs.Attempts.{AreAttempts, first_hands}
use Rattle.repeated_runs.specs.Dials.{IsDialHere}
use Rattle.repeated_runs.specs.Moments.{moment}
use Rattle.repeated_runs.specs.declared.attempt.Attempt.{Attempt}
use Rattle.repeated_runs.proofs.again.take_step.Goals as goal

pub behind_run-requires-clause-told : goal.behind_run-requires-clause-told
behind_run-requires-clause-told g c = λ m e. let low = c.requires.told m e in omega (arith, low)

pub run_once-once-requires-clause-told : goal.run_once-once-requires-clause-told
run_once-once-requires-clause-told g c κs within = one_more_far (g.P.Plug.dialled c.args.plug.now) (g.P.Plug.dialled c.behind_run.new.plug) c.requires.told c.in-Again.ensures.7.1

pub run_once-once-requires-clause-given : goal.run_once-once-requires-clause-given
run_once-once-requires-clause-given g c κs within = (the_fit c.args.workers c.args.course.once.left c.in-Again.left c.in-Again.ensures.1 c.requires.fit).as_many

pub run_once-once-requires-clause-whole : goal.run_once-once-requires-clause-whole
run_once-once-requires-clause-whole g c κs within = (the_fit c.args.workers c.args.course.once.left c.in-Again.left c.in-Again.ensures.1 c.requires.fit).whole

pub run_once-once-requires-clause-acyclic : goal.run_once-once-requires-clause-acyclic
run_once-once-requires-clause-acyclic g c κs within = (the_fit c.args.workers c.args.course.once.left c.in-Again.left c.in-Again.ensures.1 c.requires.fit).acyclic

pub run_once-once-requires-clause-needs : goal.run_once-once-requires-clause-needs
run_once-once-requires-clause-needs g c κs within = (the_fit c.args.workers c.args.course.once.left c.in-Again.left c.in-Again.ensures.1 c.requires.fit).needs

pub run_once-once-requires-clause-own : goal.run_once-once-requires-clause-own
run_once-once-requires-clause-own g c κs within = (the_fit c.args.workers c.args.course.once.left c.in-Again.left c.in-Again.ensures.1 c.requires.fit).own

pub returns-in-Again : goal.returns-in-Again
returns-in-Again g c = λ declared task first u. goes_on (λ h. telling (g.P.Hand.Hand.log h) (g.P.Hand.Hand.heard h) (g.P.Hand.Hand.faults h) (g.P.Hand.Hand.clock h) (g.P.Hand.Hand.engine h)) (IsDialHere c.args.place.now) c.args.workers declared c.args.aim task c.args.course.earlier.items c.args.course.once first
    (moment (g.P.Plug.dials c.args.plug.now) (g.P.Plug.dialled c.args.plug.now) (g.P.Plug.faults c.args.plug.now) (g.O.Sink.written c.args.out.now) (g.O.Sink.faults c.args.out.now)) u c.behind_run.new.earlier.items
    (moment (g.P.Plug.dials c.behind_run.new.plug) (g.P.Plug.dialled c.behind_run.new.plug) (g.P.Plug.faults c.behind_run.new.plug) (g.O.Sink.written c.args.out.now) (g.O.Sink.faults c.args.out.now)) refl refl c.in-Again.left c.run_once-once.result
    (moment (g.P.Plug.dials c.run_once-once.new.plug) (g.P.Plug.dialled c.run_once-once.new.plug) (g.P.Plug.faults c.run_once-once.new.plug) (g.O.Sink.written c.run_once-once.new.out) (g.O.Sink.faults c.run_once-once.new.out))
    c.in-Again.ensures c.run_once-once.ensures.run c.run_once-once.ensures.reported c.run_once-once.ensures.broken c.run_once-once.ensures.left c.run_once-once.ensures.lost

pub returns-in-Stands : goal.returns-in-Stands
returns-in-Stands g c = λ declared task first u. subst (λ (l : List (Attempt _)). AreAttempts (λ h. telling (g.P.Hand.Hand.log h) (g.P.Hand.Hand.heard h) (g.P.Hand.Hand.faults h) (g.P.Hand.Hand.clock h) (g.P.Hand.Hand.engine h)) (IsDialHere c.args.place.now) c.args.workers task (record { earlier = l; last = c.in-Stands.last; looker = c.in-Stands.looker }) first (moment (g.P.Plug.dials c.behind_run.new.plug) (g.P.Plug.dialled c.behind_run.new.plug) (g.P.Plug.faults c.behind_run.new.plug) (g.O.Sink.written c.args.out.now) (g.O.Sink.faults c.args.out.now)) × (first_hands l c.in-Stands.last ≡ first_hands c.args.course.earlier.items c.args.course.once.ended)) (sym c.into_list.ensures)
    (is_over (λ h. telling (g.P.Hand.Hand.log h) (g.P.Hand.Hand.heard h) (g.P.Hand.Hand.faults h) (g.P.Hand.Hand.clock h) (g.P.Hand.Hand.engine h)) (IsDialHere c.args.place.now) c.args.workers declared c.args.aim task c.args.course.earlier.items c.args.course.once first
    (moment (g.P.Plug.dials c.args.plug.now) (g.P.Plug.dialled c.args.plug.now) (g.P.Plug.faults c.args.plug.now) (g.O.Sink.written c.args.out.now) (g.O.Sink.faults c.args.out.now)) u c.behind_run.new.earlier.items
    (moment (g.P.Plug.dials c.behind_run.new.plug) (g.P.Plug.dialled c.behind_run.new.plug) (g.P.Plug.faults c.behind_run.new.plug) (g.O.Sink.written c.args.out.now) (g.O.Sink.faults c.args.out.now)) refl refl c.in-Stands.last c.in-Stands.looker c.in-Stands.ensures)
