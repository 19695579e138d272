use Rattle.std.proofs.Common.{◌≡◌, ◌∙◌, ℕ, List, ap, map, subst}
use Rattle.std.specs.Prelude.{IfOk, filter}
use Rattle.plan_core.specs.Finding.{slot_seen, slot_text}
use Rattle.plan_core.specs.Index.{numbers_under}
use Rattle.plan_core.specs.Keeping.{texts_under}
use Rattle.rolling_update.specs.Needs.{Given, Scene, owns}
use Rattle.rolling_update.proofs.Found.{owners_found}
use Rattle.rolling_update.proofs.table.Table.owners.Goals as goal

pub returns : goal.returns
returns c =
    let found = subst (λ (s : Scene). c.slots_under.result.now ≡ numbers_under (texts_under (map slot_text s.declared.slots)) (slot_seen s.seen c.args.container))
    (ap (λ (g : Given). g.scene) c.self.view_is) c.slots_under.ensures in
    subst (λ (numbers : List ℕ). IfOk c.owners_among.result (λ owners. owners.items ≡ numbers))
    (ap (filter (owns c.args.self.now.scene c.args.container)) found ∙ owners_found c.args.self.now.scene c.args.container) c.owners_among.ensures
