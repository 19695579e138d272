use Rattle.std.proofs.Common.{◌≡◌, ◌∙◌, ◌++◌, ◌∷◌, [], ℕ, Option, List, Some, length, slice_get, refl, ap, arith, unwrap_or}
use Rattle.std.proofs.lemmas.Option.{slice_get_read}
use Rattle.attribute_scalars.proofs.Walks.{all_made, one_made}
use Rattle.attribute_scalars.proofs.lists.labels_from.Goals as goal

pub loop-value-preserved : goal.loop-value-preserved
loop-value-preserved c =
    let items = c.args.values.now in
    let i = c.loop-value.value-index in
    let value = c.value-item.result in
    let at : slice_get items i ≡ Some value = slice_get_read items (length items) i value refl (omega arith) c.value-item.is in
    one_made (λ (value : Option (List ℕ)). Some (unwrap_or value [])) items i value c.loop-value.labels _ c.loop-value.invariant at
    (c.in_ok-push.ensures.ok ∙ ap (λ (label : List ℕ). c.loop-value.labels ++ Some label ∷ []) c.in_ok-label_of.ensures)

pub returns : goal.returns
returns c = all_made (λ (value : Option (List ℕ)). Some (unwrap_or value [])) c.args.values.now c.loop-value.value-index c.loop-value.labels c.loop-value.invariant (omega arith)
