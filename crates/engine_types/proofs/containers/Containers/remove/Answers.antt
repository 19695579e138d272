-- The first row is left out with those in front of it; another one is taken out behind them.
use Rattle.std.proofs.Common.{◌≡◌, ◌<◌, length, sym, ap, ◌∙◌}
use Rattle.std.specs.Prelude.{drop}
use Rattle.std.specs.List.{remove}
use Rattle.engine_types.proofs.Fronts.{drop-one_more, drop-remove}
use Rattle.engine_types.proofs.containers.Containers.remove.Goals as goal

pub returns-then-at-eq0 : goal.returns-then-at-eq0
returns-then-at-eq0 c =
    rw c.if-at-eq0.true (c.drop_removed.ensures ∙ drop-one_more c.self.inside.removed c.self.inside.rows.items
    ∙ ap (λ rows. remove rows 0) c.self.view_is)

pub returns-else-at-eq0 : goal.returns-else-at-eq0
returns-else-at-eq0 c =
    let rows = c.self-else-at-eq0.inside.rows.items in
    let removed = c.self-else-at-eq0.inside.removed in
    let within : c.args.at < length (drop removed rows) = rw c.self-else-at-eq0.view_is c.requires in
    ap (drop removed) c.remove.ensures.items ∙ drop-remove removed c.args.at rows within
    ∙ ap (λ all. remove all c.args.at) c.self-else-at-eq0.view_is
