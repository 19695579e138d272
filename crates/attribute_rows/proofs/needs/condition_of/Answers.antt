use Rattle.std.proofs.Common.{◌∙◌, Bool, ap, codes, refl, sym}
use Rattle.std.specs.Prelude.{if◌then◌else◌}
use Rattle.std.specs.Str.{bytes_eq}
use Rattle.attribute_types.specs.declared.rows.DependencyCondition.{DependencyCondition}
use Rattle.attribute_rows.proofs.Words.{differs}
use Rattle.attribute_rows.proofs.needs.condition_of.Goals as goal

pub returns-in-service_healthy : goal.returns-in-service_healthy
returns-in-service_healthy c = rw c.in-service_healthy.is refl

pub returns-in-service_completed_successfully : goal.returns-in-service_completed_successfully
returns-in-service_completed_successfully c = rw c.in-service_completed_successfully.is refl

pub returns-in_default : goal.returns-in_default
returns-in_default c =
    let word = c.args.word.now in
    sym (ap (λ (b : Bool). if b then DependencyCondition.Healthy else (if bytes_eq word (codes "service_completed_successfully") then DependencyCondition.Completed else DependencyCondition.Started)) (differs word (codes "service_healthy") c.in_default.not-service_healthy)
    ∙ ap (λ (b : Bool). if b then DependencyCondition.Completed else DependencyCondition.Started) (differs word (codes "service_completed_successfully") c.in_default.not-service_completed_successfully))
