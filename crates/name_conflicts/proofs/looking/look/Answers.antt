use Rattle.std.proofs.Common.{subst, sym}
use Rattle.std.specs.Prelude.{Option}
use Rattle.name_conflicts.proofs.Rounds.{sends, unsent}
use Rattle.name_conflicts.specs.Looks.{Sends}
use Rattle.name_conflicts.specs.declared.look_end.LookEnd.{LookEnd}
use Rattle.name_conflicts.proofs.looking.look.Goals as goal

pub returns-clause-sent : goal.returns-clause-sent
returns-clause-sent g c = subst (λ (found : Option LookEnd). Sends c.args.project.now c.args.request.now found (g.H.Hand.log c.args.hand.now) (g.H.Hand.log c.exchange-outcome.new.self)) (sym c.look_end-end.ensures)
    (sends c.args.project.now c.args.request.now c.in-Ok.listing c.exchange-outcome.result (g.H.Hand.log c.args.hand.now) (g.H.Hand.log c.exchange-outcome.new.self) c.in-Ok.ensures c.exchange-outcome.ensures.log)

pub returns-in_default-clause-sent : goal.returns-in_default-clause-sent
returns-in_default-clause-sent g c = unsent c.args.project.now c.args.request.now (g.H.Hand.log c.args.hand.now)
