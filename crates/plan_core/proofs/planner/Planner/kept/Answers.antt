-- The kept containers are looked up once, for all slots.
use Rattle.std.proofs.Common.{◌≡◌, ◌∙◌, slice_get, subst}
use Rattle.std.specs.Option.{option_and_then, option_copied}
use Rattle.run_model.specs.Plans.{Basis, kept, kept_of}
use Rattle.plan_core.proofs.Kept.{at_same}
use Rattle.plan_core.proofs.planner.Planner.kept.Goals as goal

pub returns : goal.returns
returns c =
    let fields = c.self.inside in
    let found = at_same (option_and_then (slice_get fields.seen.now.containers)) (kept_of fields.declared.now fields.seen.now) fields.found.kept.items fields.declared.now.slots c.self.invariant.0 c.args.slot in
    let all = c.as_slice.ensures.value in
    subst (λ (b : Basis). option_copied c.kept_at.result ≡ kept b.declared b.seen c.args.slot) c.self.view_is
    (rw all at c.kept_at.ensures ∙ found)
