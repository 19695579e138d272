-- The texts are made once, for all containers.
use Rattle.std.proofs.Common.{◌≡◌, ◌∙◌, ℕ, List, [], ap, slice_get, subst, unwrap_or}
use Rattle.run_model.specs.Plans.{Basis}
use Rattle.plan_core.specs.Finding.{container_text, slot_seen}
use Rattle.plan_core.proofs.Loops.{text_of}
use Rattle.plan_core.proofs.planner.Planner.slot_seen.Goals as goal

pub returns : goal.returns
returns c =
    let fields = c.self.inside in
    subst (λ (b : Basis). c.text_at.result.now ≡ slot_seen b.seen c.args.container) c.self.view_is
    (c.text_at.ensures ∙ ap (λ (texts : List (List ℕ)). unwrap_or (slice_get texts c.args.container) []) (c.as_slice.ensures ∙ c.self.invariant.6)
    ∙ text_of container_text fields.seen.now.containers c.args.container)
