-- The kept containers are looked up once, for all slots.
use Rattle.std.proofs.Common.{◌≡◌, ◌∙◌, ℕ, List, ap, subst}
use Rattle.run_model.specs.Plans.{Basis, is_kept}
use Rattle.plan_core.specs.Index.{is_under}
use Rattle.plan_core.proofs.SlotRows.{kept_by_id}
use Rattle.plan_core.proofs.planner.Planner.is_kept.Goals as goal

pub returns : goal.returns
returns c =
    let fields = c.self.inside in
    let found = kept_by_id fields.declared.now fields.seen.now fields.found.kept.items c.args.row.now c.self.invariant.0 in
    subst (λ (b : Basis). c.has.result ≡ is_kept b.declared b.seen c.args.row.now) c.self.view_is
    (c.has.ensures ∙ ap (is_under fields.kept_ids) c.as_str.ensures.value ∙ ap (λ (entries : List (List ℕ × ℕ)). is_under entries c.args.row.now.id) c.self.invariant.1 ∙ found)
