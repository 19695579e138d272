use Rattle.std.proofs.Common.{◌∙◌, ℕ, List, ap}
use Rattle.plan_core.specs.Finding.{slot_text_at}
use Rattle.plan_core.specs.Index.{numbers_under}
use Rattle.plan_core.specs.Keeping.{containers_under}
use Rattle.rolling_update.specs.Needs.{Given}
use Rattle.rolling_update.proofs.finder.Finder.rows_under.Goals as goal

pub returns : goal.returns
returns c =
    c.find.ensures ∙ ap (numbers_under c.self.inside.rows) c.text.ensures
    ∙ ap (λ (entries : List (List ℕ × ℕ)). numbers_under entries (slot_text_at c.args.self.now.scene.declared c.args.number))
    (c.self.invariant.4 ∙ ap (λ (given : Given). containers_under given.scene.seen) c.self.view_is)
