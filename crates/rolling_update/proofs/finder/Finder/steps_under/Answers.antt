use Rattle.std.proofs.Common.{◌∙◌, ℕ, List, ap, map}
use Rattle.plan_core.specs.Finding.{slot_text_at}
use Rattle.plan_core.specs.Index.{numbers_under}
use Rattle.plan_core.specs.Keeping.{texts_under}
use Rattle.rolling_update.specs.Needs.{Given, step_text}
use Rattle.rolling_update.proofs.finder.Finder.steps_under.Goals as goal

pub returns : goal.returns
returns c =
    c.find.ensures ∙ ap (numbers_under c.self.inside.steps) c.text.ensures
    ∙ ap (λ (entries : List (List ℕ × ℕ)). numbers_under entries (slot_text_at c.args.self.now.scene.declared c.args.number))
    (c.self.invariant.6 ∙ ap (λ (given : Given). texts_under (map (step_text given.scene) given.actions)) c.self.view_is)
