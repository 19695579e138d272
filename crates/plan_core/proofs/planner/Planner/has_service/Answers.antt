-- The services are found by their keys.
use Rattle.std.proofs.Common.{◌≡◌, ◌∙◌, ℕ, List, false, ap, subst, sym}
use Rattle.run_model.specs.Labels.{has_declared_service}
use Rattle.run_model.specs.Plans.{Basis}
use Rattle.plan_core.specs.Index.{is_under}
use Rattle.plan_core.proofs.SlotRows.{service_by_key, service_unnamed}
use Rattle.plan_core.proofs.planner.Planner.has_service.Goals as goal

pub returns-in-Some : goal.returns-in-Some
returns-in-Some c =
    let fields = c.self.inside in
    let key = c.in-Some.service.now in
    subst (λ (b : Basis). c.has.result ≡ has_declared_service b.declared c.args.pairs.now) c.self.view_is
    (c.has.ensures ∙ ap (is_under fields.services) c.as_str.ensures.value ∙ ap (λ (entries : List (List ℕ × ℕ)). is_under entries key) c.self.invariant.3
    ∙ service_by_key fields.declared.now c.args.pairs.now key (sym c.in-Some.ensures))

pub returns-in-None : goal.returns-in-None
returns-in-None c =
    sym (subst (λ (b : Basis). has_declared_service b.declared c.args.pairs.now ≡ false) c.self.view_is
    (service_unnamed c.self.inside.declared.now c.args.pairs.now (sym c.in-None.ensures)))
