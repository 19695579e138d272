use Rattle.std.proofs.Common.{subst}
use Rattle.std.specs.Prelude.{slice_index_or}
use Rattle.ledger_run.specs.Tellings.{telling}
use Rattle.worker_pool.specs.Seats.{HasWorked, IsWorker}
use Rattle.worker_pool.specs.declared.members.Member.{Member}
use Rattle.worker_pool.proofs.members.work_all.Goals as goal

pub returns-clause-works : goal.returns-clause-works
returns-clause-works g c = λ k d l. let at = (c.for_each_mut.ensures k d l).1 in
    subst (λ (m : Member g.row.H.Denot). IsWorker c.args.turns.now m.seat × HasWorked c.args.turns.now.object c.args.deadline (slice_index_or c.args.crew.now k d).seat.view m.seat.view
    (telling (g.H.Hand.log (slice_index_or c.args.crew.now k d).hand) (g.H.Hand.heard (slice_index_or c.args.crew.now k d).hand) (g.H.Hand.faults (slice_index_or c.args.crew.now k d).hand) (g.H.Hand.clock (slice_index_or c.args.crew.now k d).hand) (g.H.Hand.engine (slice_index_or c.args.crew.now k d).hand))
    (telling (g.H.Hand.log m.hand) (g.H.Hand.heard m.hand) (g.H.Hand.faults m.hand) (g.H.Hand.clock m.hand) (g.H.Hand.engine m.hand))) at.left
    (subst (λ (m : Member g.row.H.Denot). IsWorker c.args.turns.now at.after_call.now.seat × HasWorked c.args.turns.now.object c.args.deadline m.seat.view at.after_call.now.seat.view
    (telling (g.H.Hand.log m.hand) (g.H.Hand.heard m.hand) (g.H.Hand.faults m.hand) (g.H.Hand.clock m.hand) (g.H.Hand.engine m.hand))
    (telling (g.H.Hand.log at.after_call.now.hand) (g.H.Hand.heard at.after_call.now.hand) (g.H.Hand.faults at.after_call.now.hand) (g.H.Hand.clock at.after_call.now.hand) (g.H.Hand.engine at.after_call.now.hand))) at.argument_is at.call)
