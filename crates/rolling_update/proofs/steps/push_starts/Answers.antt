use Rattle.std.proofs.Common.{◌≡◌, ◌∙◌, ◌++◌, ℕ, List, ap, subst}
use Rattle.std.specs.Prelude.{OnOk, filter}
use Rattle.engine_types.specs.declared.Action.{Action}
use Rattle.rolling_update.specs.Needs.{starts_at}
use Rattle.rolling_update.proofs.Found.{starts_found}
use Rattle.rolling_update.proofs.steps.push_starts.Goals as goal

pub returns : goal.returns
returns c =
    subst (λ (places : List ℕ). OnOk c.push_starts_among.result (c.push_starts_among.new.added.items ≡ c.args.added.now.items ++ places))
    (ap (λ (actions : List Action). filter (starts_at actions c.args.number) c.steps_under.result.now) c.actions.ensures
    ∙ ap (filter (starts_at c.args.finder.now.actions c.args.number)) c.steps_under.ensures
    ∙ starts_found c.args.finder.now.scene c.args.finder.now.actions c.args.number)
    c.push_starts_among.ensures
