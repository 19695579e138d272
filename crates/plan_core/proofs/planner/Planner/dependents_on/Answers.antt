-- The services that depend on each are looked up once.
use Rattle.std.proofs.Common.{◌≡◌, ◌∙◌, ℕ, List, ap, subst}
use Rattle.run_model.specs.Plans.{Basis}
use Rattle.plan_core.specs.Finding.{dependents_of, service_seen}
use Rattle.plan_core.specs.Index.{numbers_under}
use Rattle.plan_core.proofs.planner.Planner.dependents_on.Goals as goal

pub returns : goal.returns
returns c =
    let fields = c.self.inside in
    subst (λ (b : Basis). c.find.result.now ≡ numbers_under (dependents_of b.declared) (service_seen b.seen c.args.container)) c.self.view_is
    (c.find.ensures ∙ ap (numbers_under fields.dependents) c.service_seen.ensures
    ∙ ap (λ (entries : List (List ℕ × ℕ)). numbers_under entries (service_seen fields.seen.now c.args.container)) c.self.invariant.4)
