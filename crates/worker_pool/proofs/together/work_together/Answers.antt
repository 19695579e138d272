use Rattle.std.proofs.Common.{◌≡◌, ◌<◌, arith, subst}
use Rattle.std.proofs.lemmas.Grind.{common_steps}
use Rattle.journal_laws.specs.Courses.{Course}
use Rattle.ledger_run.specs.Tellings.{telling}
use Rattle.worker_pool.specs.Crew.{ComesTo, EachPair, HasDone}
use Rattle.worker_pool.proofs.Over.{followed}
use Rattle.worker_pool.proofs.together.work_together.Goals as goal

pub returns-in-Ok-new-clause-legal : goal.returns-in-Ok-new-clause-legal
returns-in-Ok-new-clause-legal g c =
    let object : c.in-Ok-new.turns.object ≡ c.args.ledger = grind (arith, common_steps) in
    let some = c.requires.some in let many = c.requires.workers in
    let works : 0 < c.args.ledger.limits.workers = omega (arith, some, many) in
    (followed c.args.ledger c.work_in_turns.result.ledger c.requires.begun c.work_in_turns.ensures.open_run (subst (λ (q : Course). ComesTo q c.work_in_turns.result.ledger) object c.work_in_turns.ensures.come) c.work_in_turns.ensures.left works).legal

pub returns-in-Ok-new-clause-over : goal.returns-in-Ok-new-clause-over
returns-in-Ok-new-clause-over g c =
    let object : c.in-Ok-new.turns.object ≡ c.args.ledger = grind (arith, common_steps) in
    let some = c.requires.some in let many = c.requires.workers in
    let works : 0 < c.args.ledger.limits.workers = omega (arith, some, many) in
    (followed c.args.ledger c.work_in_turns.result.ledger c.requires.begun c.work_in_turns.ensures.open_run (subst (λ (q : Course). ComesTo q c.work_in_turns.result.ledger) object c.work_in_turns.ensures.come) c.work_in_turns.ensures.left works).over

pub returns-in-Ok-new-clause-hands : goal.returns-in-Ok-new-clause-hands
returns-in-Ok-new-clause-hands g c =
    let object : c.in-Ok-new.turns.object ≡ c.args.ledger = grind (arith, common_steps) in
    subst (λ (q : Course). EachPair (λ w before after. HasDone w c.args.deadline q c.work_in_turns.result.ledger
    (telling (g.H.Hand.log before) (g.H.Hand.heard before) (g.H.Hand.faults before) (g.H.Hand.clock before) (g.H.Hand.engine before))
    (telling (g.H.Hand.log after) (g.H.Hand.heard after) (g.H.Hand.faults after) (g.H.Hand.clock after) (g.H.Hand.engine after))) 0 c.args.hands c.work_in_turns.result.hands) object c.work_in_turns.ensures.hands
