use Rattle.std.proofs.Common.{refl, sym, inl, inr}
use Rattle.observe_project.proofs.Judged.{judged-bad, judged-cause, judged-good}
use Rattle.observe_project.proofs.Onward.{judging_asked}
use Rattle.observe_project.proofs.judging.judge.Goals as goal

pub returns-in-Ok-None-clause-leads : goal.returns-in-Ok-None-clause-leads
returns-in-Ok-None-clause-leads c = judged-good c.args.declared.now c.args.purpose c.args.seen (sym (rw c.in-Ok-None.field-0-is at c.in-Ok-None.ensures))

pub returns-in-Ok-Some-clause-leads : goal.returns-in-Ok-Some-clause-leads
returns-in-Ok-Some-clause-leads c =
    inl (judged-bad c.args.declared.now c.args.purpose c.args.seen c.in-Ok-Some.fault (sym (rw c.in-Ok-Some.field-0-is at c.in-Ok-Some.ensures)))

pub returns-in-Ok-Some-clause-cause : goal.returns-in-Ok-Some-clause-cause
returns-in-Ok-Some-clause-cause c = judged-cause c.args.declared.now c.args.purpose c.args.seen c.in-Ok-Some.fault (sym (rw c.in-Ok-Some.field-0-is at c.in-Ok-Some.ensures))

pub returns-in-Err-clause-leads : goal.returns-in-Err-clause-leads
returns-in-Err-clause-leads c = inr (refl, judging_asked c.args.declared.now c.args.purpose c.args.seen)
