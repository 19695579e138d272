-- A container's service is found by its key.
use Rattle.std.proofs.Common.{◌≡◌, ◌∙◌, ℕ, List, ap, subst}
use Rattle.std.specs.List.{list_any}
use Rattle.run_model.specs.Plans.{Basis, depends_on}
use Rattle.plan_core.specs.Finding.{service_named}
use Rattle.plan_core.specs.Index.{numbers_under}
use Rattle.plan_core.specs.Keeping.{depends_by_at}
use Rattle.plan_core.proofs.SlotRows.{dependence_found}
use Rattle.plan_core.proofs.planner.Planner.depends_on.Goals as goal

pub returns : goal.returns
returns c =
    let fields = c.self.inside in
    let row = c.args.row.now in
    let other = c.args.other.now in
    let found = c.find-services.ensures ∙ ap (numbers_under fields.services) c.service_named.ensures
    ∙ ap (λ (entries : List (List ℕ × ℕ)). numbers_under entries (service_named row.labels)) c.self.invariant.3 in
    subst (λ (b : Basis). c.any_depends.result ≡ depends_on b.declared row other) c.self.view_is
    (c.any_depends.ensures ∙ ap (list_any (depends_by_at fields.declared.now row other)) found ∙ dependence_found fields.declared.now row other)
