use Rattle.std.proofs.Common.{◌≡◌, ap, inl, inr, subst, sym, refl, ◌∙◌}
use Rattle.std.specs.Prelude.{IfSome}
use Rattle.engine_types.specs.declared.Observed.{Observed}
use Rattle.journal_laws.specs.Courses.{Course}
use Rattle.ledger_run.specs.Tellings.{telling}
use Rattle.project_run.proofs.Working.{only_seen}
use Rattle.project_run.specs.Carrying.{IsWorked}
use Rattle.project_run.proofs.carrying.carry_out.Goals as goal

pub work_through-requires-clause-begun : goal.work_through-requires-clause-begun
work_through-requires-clause-begun g c = only_seen c.args.declared c.args.observed c.args.plan c.args.limits c.in-Ok.ledger c.requires.may c.in-Ok.ensures.begun

pub returns-in-Ok-clause-carried : goal.returns-in-Ok-clause-carried
returns-in-Ok-clause-carried g c = inl (subst (λ (run : Course). IsWorked run c.work_through.result.ran.journal
    (telling (g.H.Hand.log c.args.hand.now) (g.H.Hand.heard c.args.hand.now) (g.H.Hand.faults c.args.hand.now) (g.H.Hand.clock c.args.hand.now) (g.H.Hand.engine c.args.hand.now))
    (telling (g.H.Hand.log c.work_through.new.hand) (g.H.Hand.heard c.work_through.new.hand) (g.H.Hand.faults c.work_through.new.hand) (g.H.Hand.clock c.work_through.new.hand) (g.H.Hand.engine c.work_through.new.hand)))
    c.in-Ok.ensures.begun c.work_through.ensures.worked)

pub returns-in-Ok-clause-back : goal.returns-in-Ok-clause-back
returns-in-Ok-clause-back g c = subst (λ (run : Course). IfSome c.work_through.result.declared (λ same. same ≡ run.declared)) c.in-Ok.ensures.begun c.work_through.ensures.back

pub returns-in-Ok-clause-lost : goal.returns-in-Ok-clause-lost
returns-in-Ok-clause-lost g c = λ none. absurd (c.work_through.ensures.kept none)
