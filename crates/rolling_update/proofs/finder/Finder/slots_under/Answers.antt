use Rattle.std.proofs.Common.{◌∙◌, ℕ, List, ap, map}
use Rattle.plan_core.specs.Finding.{slot_seen, slot_text}
use Rattle.plan_core.specs.Index.{numbers_under}
use Rattle.plan_core.specs.Keeping.{texts_under}
use Rattle.rolling_update.specs.Needs.{Given}
use Rattle.rolling_update.proofs.finder.Finder.slots_under.Goals as goal

pub returns : goal.returns
returns c =
    c.find.ensures ∙ ap (numbers_under c.self.inside.slots) c.row_text.ensures
    ∙ ap (λ (entries : List (List ℕ × ℕ)). numbers_under entries (slot_seen c.args.self.now.scene.seen c.args.place))
    (c.self.invariant.2 ∙ ap (λ (given : Given). texts_under (map slot_text given.scene.declared.slots)) c.self.view_is)
