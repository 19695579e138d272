use Rattle.std.proofs.Common.{◌≡◌, ◌∙◌, ap, length, subst, sym}
use Rattle.std.specs.Prelude.{Option}
use Rattle.name_conflicts.specs.Looks.{ReadsOnce}
use Rattle.outside_api.specs.Clock.{Clock, read_at}
use Rattle.name_conflicts.proofs.looking.is_late.Goals as goal

pub returns-in-Some-clause-clock : goal.returns-in-Some-clause-clock
returns-in-Some-clause-clock g c =
    let last : (g.H.Hand.clock c.now-reading.new.self).last ≡ c.now-reading.result = ap (λ (k : Clock). k.last) c.now-reading.ensures.clock in
    subst (λ (deadline : Option _). ReadsOnce deadline (length (g.H.Hand.log c.args.hand.now)) (g.H.Hand.clock c.args.hand.now) (g.H.Hand.clock c.now-reading.new.self)) (sym c.in-Some.is)
    (c.now-reading.ensures.clock ∙ ap (read_at (length (g.H.Hand.log c.args.hand.now)) (g.H.Hand.clock c.args.hand.now)) (sym last))
