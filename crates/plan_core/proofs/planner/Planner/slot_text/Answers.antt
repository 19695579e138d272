-- The texts are made once, for all slots.
use Rattle.std.proofs.Common.{◌≡◌, ◌∙◌, ℕ, List, [], ap, slice_get, subst, unwrap_or}
use Rattle.run_model.specs.Plans.{Basis}
use Rattle.plan_core.specs.Finding.{slot_text, slot_text_at}
use Rattle.plan_core.proofs.Loops.{text_of}
use Rattle.plan_core.proofs.planner.Planner.slot_text.Goals as goal

pub returns : goal.returns
returns c =
    let fields = c.self.inside in
    subst (λ (b : Basis). c.text_at.result.now ≡ slot_text_at b.declared c.args.slot) c.self.view_is
    (c.text_at.ensures ∙ ap (λ (texts : List (List ℕ)). unwrap_or (slice_get texts c.args.slot) []) (c.as_slice.ensures ∙ c.self.invariant.5)
    ∙ text_of slot_text fields.declared.now.slots c.args.slot)
