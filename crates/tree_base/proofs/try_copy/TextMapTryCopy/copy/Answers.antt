use Rattle.std.proofs.Common.{◌≡◌, ◌∙◌, ap}
use Rattle.std.specs.List.{zip}
use Rattle.std.specs.Map.{keys_of}
use Rattle.indexmap.proofs.ReorderLemmas.{zip_of_parts}
use Rattle.tree_base.proofs.try_copy.TextMapTryCopy.copy.Goals as goal

pub returns : goal.returns
returns g c =
    let es = c.args.self.now in
    let same : zip (keys_of es) c.in_ok-values.values ≡ es = ap (zip (keys_of es)) (c.in_ok-values.ensures ∙ c.values.ensures) ∙ zip_of_parts es in
    rw same at c.with_values.ensures
