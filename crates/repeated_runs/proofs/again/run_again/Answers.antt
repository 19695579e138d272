use Rattle.std.proofs.Common.{◌≡◌, List, None, ap, arith, length, refl, subst, sym}
use Rattle.ledger_run.specs.Tellings.{telling}
use Rattle.repeated_runs.proofs.Counting.{can_count}
use Rattle.repeated_runs.proofs.Steps.{fits, full_over, task_same, underway_first}
use Rattle.repeated_runs.specs.Attempts.{AreAttempts, most_runs}
use Rattle.repeated_runs.specs.Dials.{IsDialHere}
use Rattle.repeated_runs.specs.Followings.{Underway, task_by}
use Rattle.repeated_runs.specs.Moments.{moment}
use Rattle.repeated_runs.specs.Steps.{Steps}
use Rattle.repeated_runs.specs.declared.again.Step.{Step}
use Rattle.repeated_runs.specs.declared.attempt.Attempt.{Attempt}
use Rattle.run_model.specs.Runs.{Task}
use Rattle.repeated_runs.proofs.again.run_again.Goals as goal

pub run_once-requires-clause-told : goal.run_once-requires-clause-told
run_once-requires-clause-told g c κs within = λ m e. let low = c.requires.told m e in omega (arith, low)

pub runs-init : goal.runs-init
runs-init g c = record {
  going = underway_first (λ h. telling (g.P.Hand.Hand.log h) (g.P.Hand.Hand.heard h) (g.P.Hand.Hand.faults h) (g.P.Hand.Hand.clock h) (g.P.Hand.Hand.engine h)) (IsDialHere c.args.place.now) c.args.workers c.args.declared c.args.aim c.args.options c.new.result.items c.run_once.result
      (moment (g.P.Plug.dials c.args.plug.now) (g.P.Plug.dialled c.args.plug.now) (g.P.Plug.faults c.args.plug.now) (g.O.Sink.written c.args.out.now) (g.O.Sink.faults c.args.out.now))
      (moment (g.P.Plug.dials c.run_once.new.plug) (g.P.Plug.dialled c.run_once.new.plug) (g.P.Plug.faults c.run_once.new.plug) (g.O.Sink.written c.run_once.new.out) (g.O.Sink.faults c.run_once.new.out)) c.new.ensures c.run_once.ensures.run c.run_once.ensures.reported c.run_once.ensures.broken c.run_once.ensures.left c.run_once.ensures.lost;
  few = let none : length c.new.result.items ≡ 0 = ap length c.new.ensures in omega (arith, none);
}

pub take_step-requires-clause-told : goal.take_step-requires-clause-told
take_step-requires-clause-told g c κs within =
    let u = c.runs.invariant.going in let few = c.runs.invariant.few in
    can_count (λ h. telling (g.P.Hand.Hand.log h) (g.P.Hand.Hand.heard h) (g.P.Hand.Hand.faults h) (g.P.Hand.Hand.clock h) (g.P.Hand.Hand.engine h)) (IsDialHere c.args.place.now) c.args.workers (task_by (λ h. telling (g.P.Hand.Hand.log h) (g.P.Hand.Hand.heard h) (g.P.Hand.Hand.faults h) (g.P.Hand.Hand.clock h) (g.P.Hand.Hand.engine h)) c.args.declared c.args.aim c.args.options c.args.workers c.runs.course.earlier.items c.runs.course.once.ended) c.requires.few c.runs.course.earlier.items (moment (g.P.Plug.dials c.args.plug.now) (g.P.Plug.dialled c.args.plug.now) (g.P.Plug.faults c.args.plug.now) (g.O.Sink.written c.args.out.now) (g.O.Sink.faults c.args.out.now)) u.before (moment (g.P.Plug.dials c.runs.plug) (g.P.Plug.dialled c.runs.plug) (g.P.Plug.faults c.runs.plug) (g.O.Sink.written c.runs.out) (g.O.Sink.faults c.runs.out)) u.made u.run (omega (arith, few)) c.requires.told

pub take_step-requires-clause-lost : goal.take_step-requires-clause-lost
take_step-requires-clause-lost g c κs within = c.runs.invariant.going.lost

pub take_step-requires-clause-fit : goal.take_step-requires-clause-fit
take_step-requires-clause-fit g c κs within = fits c.args.workers c.args.declared (task_by (λ h. telling (g.P.Hand.Hand.log h) (g.P.Hand.Hand.heard h) (g.P.Hand.Hand.faults h) (g.P.Hand.Hand.clock h) (g.P.Hand.Hand.engine h)) c.args.declared c.args.aim c.args.options c.args.workers c.runs.course.earlier.items c.runs.course.once.ended).limits c.runs.course.once.left refl c.requires.whole c.requires.acyclic c.requires.needs c.requires.own c.runs.invariant.going.left

pub runs-preserved : goal.runs-preserved
runs-preserved g c =
    let s = subst (λ (s : Step _). Steps (λ h. telling (g.P.Hand.Hand.log h) (g.P.Hand.Hand.heard h) (g.P.Hand.Hand.faults h) (g.P.Hand.Hand.clock h) (g.P.Hand.Hand.engine h)) (IsDialHere c.args.place.now) c.args.workers c.args.declared c.args.aim (task_by (λ h. telling (g.P.Hand.Hand.log h) (g.P.Hand.Hand.heard h) (g.P.Hand.Hand.faults h) (g.P.Hand.Hand.clock h) (g.P.Hand.Hand.engine h)) c.args.declared c.args.aim c.args.options c.args.workers c.runs.course.earlier.items c.runs.course.once.ended) c.runs.course s (moment (g.P.Plug.dials c.args.plug.now) (g.P.Plug.dialled c.args.plug.now) (g.P.Plug.faults c.args.plug.now) (g.O.Sink.written c.args.out.now) (g.O.Sink.faults c.args.out.now)) (moment (g.P.Plug.dials c.take_step.new.plug) (g.P.Plug.dialled c.take_step.new.plug) (g.P.Plug.faults c.take_step.new.plug) (g.O.Sink.written c.take_step.new.out) (g.O.Sink.faults c.take_step.new.out))) c.in-On.is (c.take_step.ensures c.args.declared (task_by (λ h. telling (g.P.Hand.Hand.log h) (g.P.Hand.Hand.heard h) (g.P.Hand.Hand.faults h) (g.P.Hand.Hand.clock h) (g.P.Hand.Hand.engine h)) c.args.declared c.args.aim c.args.options c.args.workers c.runs.course.earlier.items c.runs.course.once.ended) (moment (g.P.Plug.dials c.args.plug.now) (g.P.Plug.dialled c.args.plug.now) (g.P.Plug.faults c.args.plug.now) (g.O.Sink.written c.args.out.now) (g.O.Sink.faults c.args.out.now)) c.runs.invariant.going) in
    let longer = s.1 in let below = c.runs-test.true in let many = c.len.ensures in record {
      going = subst (λ (t : Task). Underway (λ h. telling (g.P.Hand.Hand.log h) (g.P.Hand.Hand.heard h) (g.P.Hand.Hand.faults h) (g.P.Hand.Hand.clock h) (g.P.Hand.Hand.engine h)) (IsDialHere c.args.place.now) c.args.workers c.args.declared c.args.aim t c.in-On.next.earlier.items c.in-On.next.once (moment (g.P.Plug.dials c.args.plug.now) (g.P.Plug.dialled c.args.plug.now) (g.P.Plug.faults c.args.plug.now) (g.O.Sink.written c.args.out.now) (g.O.Sink.faults c.args.out.now)) (moment (g.P.Plug.dials c.take_step.new.plug) (g.P.Plug.dialled c.take_step.new.plug) (g.P.Plug.faults c.take_step.new.plug) (g.O.Sink.written c.take_step.new.out) (g.O.Sink.faults c.take_step.new.out)))
          (task_same (λ h. telling (g.P.Hand.Hand.log h) (g.P.Hand.Hand.heard h) (g.P.Hand.Hand.faults h) (g.P.Hand.Hand.clock h) (g.P.Hand.Hand.engine h)) c.args.declared c.args.aim c.args.options c.args.workers c.runs.course.earlier.items c.in-On.next.earlier.items c.runs.course.once.ended c.in-On.next.once.ended s.2) s.0;
      few = omega (arith, longer, below, many);
    }

pub runs-smaller : goal.runs-smaller
runs-smaller g c =
    let s = subst (λ (s : Step _). Steps (λ h. telling (g.P.Hand.Hand.log h) (g.P.Hand.Hand.heard h) (g.P.Hand.Hand.faults h) (g.P.Hand.Hand.clock h) (g.P.Hand.Hand.engine h)) (IsDialHere c.args.place.now) c.args.workers c.args.declared c.args.aim (task_by (λ h. telling (g.P.Hand.Hand.log h) (g.P.Hand.Hand.heard h) (g.P.Hand.Hand.faults h) (g.P.Hand.Hand.clock h) (g.P.Hand.Hand.engine h)) c.args.declared c.args.aim c.args.options c.args.workers c.runs.course.earlier.items c.runs.course.once.ended) c.runs.course s (moment (g.P.Plug.dials c.args.plug.now) (g.P.Plug.dialled c.args.plug.now) (g.P.Plug.faults c.args.plug.now) (g.O.Sink.written c.args.out.now) (g.O.Sink.faults c.args.out.now)) (moment (g.P.Plug.dials c.take_step.new.plug) (g.P.Plug.dialled c.take_step.new.plug) (g.P.Plug.faults c.take_step.new.plug) (g.O.Sink.written c.take_step.new.out) (g.O.Sink.faults c.take_step.new.out))) c.in-On.is (c.take_step.ensures c.args.declared (task_by (λ h. telling (g.P.Hand.Hand.log h) (g.P.Hand.Hand.heard h) (g.P.Hand.Hand.faults h) (g.P.Hand.Hand.clock h) (g.P.Hand.Hand.engine h)) c.args.declared c.args.aim c.args.options c.args.workers c.runs.course.earlier.items c.runs.course.once.ended) (moment (g.P.Plug.dials c.args.plug.now) (g.P.Plug.dialled c.args.plug.now) (g.P.Plug.faults c.args.plug.now) (g.O.Sink.written c.args.out.now) (g.O.Sink.faults c.args.out.now)) c.runs.invariant.going) in
    let longer = s.1 in let below = c.runs-test.true in let many = c.len.ensures in omega (arith, longer, below, many)

pub returns-in-Over : goal.returns-in-Over
returns-in-Over g c =
    let s = subst (λ (s : Step _). Steps (λ h. telling (g.P.Hand.Hand.log h) (g.P.Hand.Hand.heard h) (g.P.Hand.Hand.faults h) (g.P.Hand.Hand.clock h) (g.P.Hand.Hand.engine h)) (IsDialHere c.args.place.now) c.args.workers c.args.declared c.args.aim (task_by (λ h. telling (g.P.Hand.Hand.log h) (g.P.Hand.Hand.heard h) (g.P.Hand.Hand.faults h) (g.P.Hand.Hand.clock h) (g.P.Hand.Hand.engine h)) c.args.declared c.args.aim c.args.options c.args.workers c.runs.course.earlier.items c.runs.course.once.ended) c.runs.course s (moment (g.P.Plug.dials c.args.plug.now) (g.P.Plug.dialled c.args.plug.now) (g.P.Plug.faults c.args.plug.now) (g.O.Sink.written c.args.out.now) (g.O.Sink.faults c.args.out.now)) (moment (g.P.Plug.dials c.take_step.new.plug) (g.P.Plug.dialled c.take_step.new.plug) (g.P.Plug.faults c.take_step.new.plug) (g.O.Sink.written c.take_step.new.out) (g.O.Sink.faults c.take_step.new.out))) c.in-Over.is (c.take_step.ensures c.args.declared (task_by (λ h. telling (g.P.Hand.Hand.log h) (g.P.Hand.Hand.heard h) (g.P.Hand.Hand.faults h) (g.P.Hand.Hand.clock h) (g.P.Hand.Hand.engine h)) c.args.declared c.args.aim c.args.options c.args.workers c.runs.course.earlier.items c.runs.course.once.ended) (moment (g.P.Plug.dials c.args.plug.now) (g.P.Plug.dialled c.args.plug.now) (g.P.Plug.faults c.args.plug.now) (g.O.Sink.written c.args.out.now) (g.O.Sink.faults c.args.out.now)) c.runs.invariant.going) in
    subst (λ (t : Task). AreAttempts (λ h. telling (g.P.Hand.Hand.log h) (g.P.Hand.Hand.heard h) (g.P.Hand.Hand.faults h) (g.P.Hand.Hand.clock h) (g.P.Hand.Hand.engine h)) (IsDialHere c.args.place.now) c.args.workers t c.in-Over.attempts (moment (g.P.Plug.dials c.args.plug.now) (g.P.Plug.dialled c.args.plug.now) (g.P.Plug.faults c.args.plug.now) (g.O.Sink.written c.args.out.now) (g.O.Sink.faults c.args.out.now)) (moment (g.P.Plug.dials c.take_step.new.plug) (g.P.Plug.dialled c.take_step.new.plug) (g.P.Plug.faults c.take_step.new.plug) (g.O.Sink.written c.take_step.new.out) (g.O.Sink.faults c.take_step.new.out)))
    (task_same (λ h. telling (g.P.Hand.Hand.log h) (g.P.Hand.Hand.heard h) (g.P.Hand.Hand.faults h) (g.P.Hand.Hand.clock h) (g.P.Hand.Hand.engine h)) c.args.declared c.args.aim c.args.options c.args.workers c.runs.course.earlier.items c.in-Over.attempts.earlier c.runs.course.once.ended c.in-Over.attempts.last s.1) s.0

pub returns : goal.returns
returns g c =
    let few = c.runs.invariant.few in let done = c.runs-test.false in let many = c.len.ensures in
    let full : length c.runs.course.earlier.items ≡ most_runs = omega (arith, few, done, many) in
    subst (λ (l : List (Attempt _)). AreAttempts (λ h. telling (g.P.Hand.Hand.log h) (g.P.Hand.Hand.heard h) (g.P.Hand.Hand.faults h) (g.P.Hand.Hand.clock h) (g.P.Hand.Hand.engine h)) (IsDialHere c.args.place.now) c.args.workers (task_by (λ h. telling (g.P.Hand.Hand.log h) (g.P.Hand.Hand.heard h) (g.P.Hand.Hand.faults h) (g.P.Hand.Hand.clock h) (g.P.Hand.Hand.engine h)) c.args.declared c.args.aim c.args.options c.args.workers l c.runs.course.once.ended) (record { earlier = l; last = c.runs.course.once.ended; looker = None }) (moment (g.P.Plug.dials c.args.plug.now) (g.P.Plug.dialled c.args.plug.now) (g.P.Plug.faults c.args.plug.now) (g.O.Sink.written c.args.out.now) (g.O.Sink.faults c.args.out.now)) (moment (g.P.Plug.dials c.runs.plug) (g.P.Plug.dialled c.runs.plug) (g.P.Plug.faults c.runs.plug) (g.O.Sink.written c.runs.out) (g.O.Sink.faults c.runs.out))) (sym c.into_list.ensures)
    (full_over (λ h. telling (g.P.Hand.Hand.log h) (g.P.Hand.Hand.heard h) (g.P.Hand.Hand.faults h) (g.P.Hand.Hand.clock h) (g.P.Hand.Hand.engine h)) (IsDialHere c.args.place.now) c.args.workers c.args.declared c.args.aim (task_by (λ h. telling (g.P.Hand.Hand.log h) (g.P.Hand.Hand.heard h) (g.P.Hand.Hand.faults h) (g.P.Hand.Hand.clock h) (g.P.Hand.Hand.engine h)) c.args.declared c.args.aim c.args.options c.args.workers c.runs.course.earlier.items c.runs.course.once.ended) c.runs.course.earlier.items c.runs.course.once (moment (g.P.Plug.dials c.args.plug.now) (g.P.Plug.dialled c.args.plug.now) (g.P.Plug.faults c.args.plug.now) (g.O.Sink.written c.args.out.now) (g.O.Sink.faults c.args.out.now)) (moment (g.P.Plug.dials c.runs.plug) (g.P.Plug.dialled c.runs.plug) (g.P.Plug.faults c.runs.plug) (g.O.Sink.written c.runs.out) (g.O.Sink.faults c.runs.out)) c.runs.invariant.going full)
