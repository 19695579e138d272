use Rattle.std.proofs.Common.{◌∙◌, [], ℕ, List, Option, Some, unwrap_or}
use Rattle.std.proofs.lemmas.Result.{IfOk-weaker}
use Rattle.attribute_scalars.proofs.Pairs.{values_long, values_made}
use Rattle.attribute_scalars.proofs.lists.labels_of.Goals as goal

abbrev label : Option (List ℕ) → Option (List ℕ)
label value = Some (unwrap_or value [])

pub with_values-requires : goal.with_values-requires
with_values-requires c = values_long label c.args.pairs c.values.result.now c.in_ok-labels.labels c.values.ensures c.in_ok-labels.ensures

pub returns : goal.returns
returns c =
    IfOk-weaker c.with_values.result _ _ (λ labels same. same ∙ values_made label c.args.pairs c.values.result.now c.in_ok-labels.labels c.values.ensures c.in_ok-labels.ensures)
    c.with_values.ensures
