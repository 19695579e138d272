use Rattle.std.proofs.Common.{◌∙◌, List, ap, length, sym, subst}
use Rattle.std.specs.Prelude.{All}
use Rattle.journal_laws.specs.Courses.{Course, entries, setup_of}
use Rattle.ledger_run.specs.Tellings.{telling}
use Rattle.run_model.specs.Ending.{EveryWorkerLeft}
use Rattle.worker_pool.specs.declared.members.Member.{Member}
use Rattle.worker_pool.specs.Crew.{EachPair, HasDone, IsReady}
use Rattle.worker_pool.proofs.Crewing.{leaves_so, ready_crew, refilled, seats_kept}
use Rattle.worker_pool.proofs.together.work_in_turns.Goals as goal

pub work_all-requires-clause-ready : goal.work_all-requires-clause-ready
work_all-requires-clause-ready g c κs within =
    subst (λ (l : List (Member g.row.H.Denot)). All (λ m. IsReady c.args.turns m.seat (g.H.Hand.clock m.hand)) l) (sym c.as_mut_slice.ensures.value)
    (ready_crew (λ m. m.seat) (λ m. m.hand) (λ h. telling (g.H.Hand.log h) (g.H.Hand.heard h) (g.H.Hand.faults h) (g.H.Hand.clock h) (g.H.Hand.engine h)) c.args.turns (λ h. g.H.Hand.clock h) c.seat_all.new.crew.items c.args.hands
    c.requires.begun c.seat_all.ensures.seats c.seat_all.ensures.fresh (c.seat_all.ensures.hands ∙ c.into_vec-hands.ensures) c.requires.workers c.requires.clocks)

pub end_all-requires-clause-seats : goal.end_all-requires-clause-seats
end_all-requires-clause-seats g c =
    let long = c.work_all.ensures.as_many ∙ ap length c.as_mut_slice.ensures.value in
    seats_kept (λ m. m.seat) (λ m. m.hand) (λ h. telling (g.H.Hand.log h) (g.H.Hand.heard h) (g.H.Hand.faults h) (g.H.Hand.clock h) (g.H.Hand.engine h)) c.args.turns c.args.deadline
    c.seat_all.new.crew.items c.as_mut_slice.result.now c.work_all.new.crew _ c.as_mut_slice.ensures.value c.work_all.ensures.as_many
    (refilled c.seat_all.new.crew.len c.work_all.new.crew c.seat_all.new.crew.items c.seat_all.new.crew.ok.0 long) c.seat_all.ensures.seats c.seat_all.ensures.fresh c.work_all.ensures.works

pub returns-clause-left : goal.returns-clause-left
returns-clause-left g c =
    let long = c.work_all.ensures.as_many ∙ ap length c.as_mut_slice.ensures.value in
    subst (λ (run : Course). EveryWorkerLeft (setup_of run) (entries run)) (sym c.into_ledger-ledger.ensures.same)
    (leaves_so (λ m. m.seat) (λ m. m.hand) (λ h. telling (g.H.Hand.log h) (g.H.Hand.heard h) (g.H.Hand.faults h) (g.H.Hand.clock h) (g.H.Hand.engine h)) c.args.turns c.args.deadline
    c.seat_all.new.crew.items c.as_mut_slice.result.now c.work_all.new.crew _ c.end_all.result c.args.hands c.from_vec.result c.as_mut_slice.ensures.value c.work_all.ensures.as_many
    (refilled c.seat_all.new.crew.len c.work_all.new.crew c.seat_all.new.crew.items c.seat_all.new.crew.ok.0 long) c.requires.begun (c.seat_all.ensures.hands ∙ c.into_vec-hands.ensures)
    c.seat_all.ensures.seats c.seat_all.ensures.fresh c.requires.workers c.work_all.ensures.works (c.from_vec.ensures ∙ c.end_all.ensures.hands) c.end_all.ensures.ended).left

pub returns-clause-hands : goal.returns-clause-hands
returns-clause-hands g c =
    let long = c.work_all.ensures.as_many ∙ ap length c.as_mut_slice.ensures.value in
    subst (λ (run : Course). EachPair (λ w before after. HasDone w c.args.deadline c.args.turns.object run
    (telling (g.H.Hand.log before) (g.H.Hand.heard before) (g.H.Hand.faults before) (g.H.Hand.clock before) (g.H.Hand.engine before))
    (telling (g.H.Hand.log after) (g.H.Hand.heard after) (g.H.Hand.faults after) (g.H.Hand.clock after) (g.H.Hand.engine after))) 0 c.args.hands c.from_vec.result) (sym c.into_ledger-ledger.ensures.same)
    (leaves_so (λ m. m.seat) (λ m. m.hand) (λ h. telling (g.H.Hand.log h) (g.H.Hand.heard h) (g.H.Hand.faults h) (g.H.Hand.clock h) (g.H.Hand.engine h)) c.args.turns c.args.deadline
    c.seat_all.new.crew.items c.as_mut_slice.result.now c.work_all.new.crew _ c.end_all.result c.args.hands c.from_vec.result c.as_mut_slice.ensures.value c.work_all.ensures.as_many
    (refilled c.seat_all.new.crew.len c.work_all.new.crew c.seat_all.new.crew.items c.seat_all.new.crew.ok.0 long) c.requires.begun (c.seat_all.ensures.hands ∙ c.into_vec-hands.ensures)
    c.seat_all.ensures.seats c.seat_all.ensures.fresh c.requires.workers c.work_all.ensures.works (c.from_vec.ensures ∙ c.end_all.ensures.hands) c.end_all.ensures.ended).hands
