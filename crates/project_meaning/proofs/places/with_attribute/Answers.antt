use Rattle.std.proofs.Common.{◌≡◌, ◌∙◌, ℕ, List, ap, not}
use Rattle.std.specs.List.{insert, position_or_len}
use Rattle.attribute_types.specs.declared.attribute.Attribute.{Attribute}
use Rattle.tree_base.specs.ByteOrder.{is_before}
use Rattle.project_meaning.proofs.Inserting.{inserted, place}
use Rattle.project_meaning.proofs.places.with_attribute.Goals as goal

pub returns : goal.returns
returns c =
    let one = c.args.attribute in
    let all = c.args.attributes in
    let at : c.place_of_name-at.result ≡ place (λ (x : Attribute). x.name) one all =
    c.place_of_name-at.ensures.value ∙ ap (λ (l : List Attribute). position_or_len (λ (other : Attribute). not (is_before other.name one.name)) l) c.as_slice.ensures in
    c.from_vec.ensures
    ∙ c.in_ok-insert.ensures.items
    ∙ ap (λ (l : List Attribute). insert l c.place_of_name-at.result one) c.into_vec-items.ensures
    ∙ ap (λ (n : ℕ). insert all n one) at
    ∙ inserted (λ (x : Attribute). x.name) one all
