-- In the order of the ids.
use Rattle.std.proofs.Common.{◌≡◌, ◌∙◌, ◌++◌, ℕ, List, ap}
use Rattle.std.specs.Prelude.{filter, flat_map}
use Rattle.engine_types.specs.declared.Seen.{Seen}
use Rattle.run_model.specs.Plans.{Basis, is_wanted, places_by_id}
use Rattle.plan_core.specs.Rows.{ends_of}
use Rattle.plan_core.proofs.planner.Planner.push_ends_by_id.Goals as goal

pub returns : goal.returns
returns c =
    let fields = c.self.inside in
    let seen : fields.seen.now ≡ c.args.self.now.seen = ap (λ (b : Basis). b.seen) c.self.view_is in
    let order = c.as_slice-2.ensures.value ∙ c.in_ok-order.ensures ∙ ap places_by_id (c.as_slice.ensures ∙ ap (λ (s : Seen). s.containers) seen) in
    c.in_ok-push_removals.ensures ∙ ap (λ (places : List ℕ). c.args.kinds.now ++ filter (is_wanted c.args.self.now) (flat_map ends_of places)) order
