use Rattle.std.proofs.Common.{◌≡◌, subst}
use Rattle.typed_project.specs.Projects.{IsInOrder}
use Rattle.typed_project.specs.declared.project.Project.{Project}
use Rattle.project_meaning.specs.Completing.{service_keys}
use Rattle.project_meaning.specs.Parts.{with_settled}
use Rattle.project_meaning.proofs.Ordered.{settled_ascend}
use Rattle.project_meaning.proofs.project.complete.Goals as goal

pub ask_circle-requires : goal.ask_circle-requires
ask_circle-requires c =
    let old = c.args.project.now in
    let left = c.settle_services.new.project in
    let same : with_settled old ≡ left = cc c.in_ok-settle_services.ensures in
    subst (λ (p : Project). IsInOrder p.services) same (settled_ascend (service_keys old) old.services c.requires)
