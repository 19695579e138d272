-- Among all rows the row stands behind those of removed containers.
use Rattle.std.proofs.Common.{◌≡◌, Some, slice_get, slice_set, sym, ap, ◌∙◌}
use Rattle.std.specs.Prelude.{drop}
use Rattle.std.proofs.lemmas.List.{drop-set-add, get_or-drop}
use Rattle.std.proofs.lemmas.Option.{get_or_from_slice_get}
use Rattle.engine_types.proofs.containers.Containers.set_networks.Goals as goal

pub returns : goal.returns
returns c row got =
    let rows = c.self.inside.rows.items in
    let removed = c.self.inside.removed in
    let found = c.index_mut.result.now in
    let seen : slice_get (drop removed rows) c.args.at ≡ Some row = rw c.self.view_is got in
    let same : found ≡ row = c.index_mut.ensures.value ∙ sym (get_or-drop removed rows c.args.at found)
    ∙ get_or_from_slice_get (drop removed rows) c.args.at row found seen in
    rw same (drop-set-add removed rows c.args.at (record row { networks = c.args.networks })
    ∙ ap (λ all. slice_set all c.args.at (record row { networks = c.args.networks })) c.self.view_is)
