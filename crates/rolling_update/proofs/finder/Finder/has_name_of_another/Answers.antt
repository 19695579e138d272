use Rattle.std.proofs.Common.{◌≡◌, ◌∙◌, ℕ, List, ap, subst}
use Rattle.std.specs.List.{list_any}
use Rattle.plan_core.specs.Index.{numbers_under}
use Rattle.run_model.specs.Rolling.{has_name_of_another}
use Rattle.rolling_update.specs.Needs.{Given, Scene, is_other_at}
use Rattle.rolling_update.proofs.Found.{others_found}
use Rattle.rolling_update.proofs.finder.Finder.has_name_of_another.Goals as goal

pub returns : goal.returns
returns c =
    let fields = c.self.inside in
    let scene : Scene = record { declared = fields.declared.now; seen = fields.seen.now } in
    subst (λ (given : Given). c.any_other.result ≡ has_name_of_another given.scene.declared c.args.slot.now c.args.row.now) c.self.view_is
    (c.any_other.ensures ∙ ap (list_any (is_other_at fields.declared.now c.args.slot.now c.args.row.now))
    (c.find.ensures ∙ ap (numbers_under fields.names) c.as_str.ensures.value ∙ ap (λ (entries : List (List ℕ × ℕ)). numbers_under entries c.args.row.now.name) c.self.invariant.3)
    ∙ others_found scene c.args.slot.now c.args.row.now)
