use Rattle.std.proofs.Common.{◌≡◌, subst}
use Rattle.std.specs.Prelude.{IfSome}
use Rattle.journal_laws.specs.Courses.{Course}
use Rattle.ledger_run.specs.Tellings.{telling}
use Rattle.parallel_run.proofs.Carried.{carried, open_begun}
use Rattle.project_run.proofs.Working.{only_seen}
use Rattle.parallel_run.proofs.carrying.carry_out.Goals as goal

pub work_through-requires-clause-begun : goal.work_through-requires-clause-begun
work_through-requires-clause-begun g c κs within = only_seen c.args.declared c.args.observed c.args.plan c.args.limits c.in-Ok.ledger c.requires.may c.in-Ok.ensures.begun

pub work_through-requires-clause-open_run : goal.work_through-requires-clause-open_run
work_through-requires-clause-open_run g c κs within = open_begun c.args.declared c.args.observed c.args.plan c.args.limits c.in-Ok.ledger c.requires.may c.in-Ok.ensures.begun

pub returns-in-Ok-clause-carried : goal.returns-in-Ok-clause-carried
returns-in-Ok-clause-carried g c = carried (λ h. telling (g.H.Hand.log h) (g.H.Hand.heard h) (g.H.Hand.faults h) (g.H.Hand.clock h) (g.H.Hand.engine h)) c.args.declared c.args.observed c.args.plan c.args.limits c.in-Ok.ledger c.work_through.result.ran.journal c.args.hands c.work_through.result.hands
    c.in-Ok.ensures.begun c.work_through.ensures.worked

pub returns-in-Ok-clause-back : goal.returns-in-Ok-clause-back
returns-in-Ok-clause-back g c = subst (λ (run : Course). IfSome c.work_through.result.declared (λ same. same ≡ run.declared)) c.in-Ok.ensures.begun c.work_through.ensures.back
