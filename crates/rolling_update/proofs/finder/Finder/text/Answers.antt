use Rattle.std.proofs.Common.{◌∙◌, ℕ, List, [], ap, slice_get, unwrap_or}
use Rattle.plan_core.proofs.Loops.{text_of}
use Rattle.plan_core.specs.Finding.{slot_text, slot_text_at}
use Rattle.rolling_update.specs.Needs.{Given}
use Rattle.rolling_update.proofs.finder.Finder.text.Goals as goal

pub returns : goal.returns
returns c =
    c.text_at.ensures ∙ ap (λ (texts : List (List ℕ)). unwrap_or (slice_get texts c.args.number) []) c.self.invariant.0
    ∙ text_of slot_text c.self.inside.declared.now.slots c.args.number ∙ ap (λ (given : Given). slot_text_at given.scene.declared c.args.number) c.self.view_is
