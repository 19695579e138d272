-- The slots that are updated are looked up once.
use Rattle.std.proofs.Common.{◌≡◌, ◌∙◌, Bool, List, false, ap, slice_get, subst, unwrap_or}
use Rattle.std.specs.Option.{option_map_or}
use Rattle.run_model.specs.Plans.{Basis, is_updated, slot_at}
use Rattle.plan_core.proofs.Loops.{flag_of}
use Rattle.plan_core.proofs.planner.Planner.is_updated.Goals as goal

pub returns : goal.returns
returns c =
    let fields = c.self.inside in
    subst (λ (b : Basis). c.flag_at.result ≡ option_map_or (is_updated b.declared b.seen) (slot_at b.declared c.args.slot) false) c.self.view_is
    (c.flag_at.ensures ∙ ap (λ (flags : List Bool). unwrap_or (slice_get flags c.args.slot) false) (c.as_slice.ensures.value ∙ c.self.invariant.2)
    ∙ flag_of (is_updated fields.declared.now fields.seen.now) fields.declared.now.slots c.args.slot)
