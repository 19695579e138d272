use Rattle.std.proofs.Common.{◌∙◌, ap, inl, inr, refl}
use Rattle.wait_run.specs.Ends.{name_at}
use Rattle.wait_run.specs.declared.refusal.WaitRefusal.{WaitRefusal}
use Rattle.wait_run.proofs.wait.failed_by.Goals as goal

pub returns-in-Ok : goal.returns-in-Ok
returns-in-Ok c =
    inr (ap (λ name. WaitRefusal.Condition name c.goal_at.result c.args.failing.report) (c.in-Ok.ensures ∙ c.name_at.ensures)
    ∙ ap (λ condition. WaitRefusal.Condition (name_at c.args.declared.now c.args.failing.slot) condition c.args.failing.report) c.goal_at.ensures)

pub returns-in-Err : goal.returns-in-Err
returns-in-Err c = inl refl
