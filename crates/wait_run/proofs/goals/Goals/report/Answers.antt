-- A report turns the verdict on its slot's goal.
use Rattle.std.proofs.Common.{◌≡◌, ◌∙◌, None, Some, ap, arith, length, refl}
use Rattle.wait_run.proofs.Taking.{taken_so}
use Rattle.wait_run.proofs.goals.Goals.report.Goals as goal

pub returns-in_default-clause-reported : goal.returns-in_default-clause-reported
returns-in_default-clause-reported c = λ goal is few. let bad : None ≡ Some goal = c.in_default.ensures.value ∙ is in absurd (cc bad)

pub replace-requires : goal.replace-requires
replace-requires c = let e = ap length c.meet.ensures.rows in omega (arith, e, c.in-Some.ensures.within)

pub returns-clause-reported : goal.returns-clause-reported
returns-clause-reported c = λ goal is few.
    let e = c.meet.ensures in
    taken_so c.args.s c.args.report.now goal c.in-Some.goal.now c.args.self.now c.meet.new.self c.next_verdict-after.result _ _ _ _ _ _
    (c.in-Some.ensures.value ∙ is) c.next_verdict-after.ensures.next e.containers e.rows e.places e.left e.failed
    refl c.replace.ensures.new refl (c.left_behind-self.ensures (omega (arith, few, e.left))) c.in_ok-meet.ensures.met c.failed_now-self.ensures
