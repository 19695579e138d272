use Rattle.std.proofs.Common.{◌∙◌, ℕ, List, [], ap, slice_get, unwrap_or}
use Rattle.plan_core.proofs.Loops.{text_of}
use Rattle.plan_core.specs.Finding.{container_text, slot_seen}
use Rattle.rolling_update.specs.Needs.{Given}
use Rattle.rolling_update.proofs.finder.Finder.row_text.Goals as goal

pub returns : goal.returns
returns c =
    c.text_at.ensures ∙ ap (λ (texts : List (List ℕ)). unwrap_or (slice_get texts c.args.place) []) c.self.invariant.1
    ∙ text_of container_text c.self.inside.seen.now.containers c.args.place ∙ ap (λ (given : Given). slot_seen given.scene.seen c.args.place) c.self.view_is
