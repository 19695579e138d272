use Rattle.std.proofs.Common.{◌≡◌, ◌∙◌, ◌<◌, ◌≤◌, ℕ, Bool, true, false, List, length, map, refl, ap, arith}
use Rattle.std.specs.Prelude.{if◌then◌else◌, Some, None, filter}
use Rattle.std.proofs.lemmas.List.{take_all}
use Rattle.attribute_types.specs.declared.attribute.Attribute.{Attribute}
use Rattle.project_print.specs.declared.node.Node.{Node}
use Rattle.project_pages.specs.AttributePages.{Shown, attribute_entry, value_node}
use Rattle.typed_project.specs.DistinctNames.{HasDistinctParts}
use Rattle.project_pages.specs.Puts.{is_hashed, with_found}
use Rattle.project_pages.proofs.Hashed.{one_hashed, put_if}
use Rattle.project_pages.proofs.Lists.{holds_at}
use Rattle.project_pages.proofs.attributes.hashed_entries.Goals as goal

abbrev name : Attribute → List ℕ
name attribute = attribute.name

abbrev shown : Attribute → Node
shown attribute = value_node attribute.value

put_so : (entries : Shown) (attribute : Attribute) (b : Bool)
    → with_found entries attribute.name (if b then Some (value_node attribute.value) else None) ≡ put_if is_hashed name shown entries attribute b
unfolding with_found
put_so entries attribute true = refl
put_so entries attribute false = refl

pub put_hashed-requires : goal.put_hashed-requires
put_hashed-requires c =
    let within : c.loop-attribute.attribute-index < length c.args.attributes.now = omega arith in
    holds_at (λ (attribute : Attribute). HasDistinctParts attribute.value) c.args.attributes.now c.loop-attribute.attribute-index c.attribute-item.result c.requires.parts within c.attribute-item.is

pub loop-attribute-preserved : goal.loop-attribute-preserved
loop-attribute-preserved c =
    let within : c.loop-attribute.attribute-index < length c.args.attributes.now = omega arith in
    let item = c.attribute-item.result in
    one_hashed is_hashed name shown c.args.attributes.now c.loop-attribute.attribute-index item c.loop-attribute.entries _ c.requires.names within c.attribute-item.is
    c.loop-attribute.invariant (c.in_ok-put_hashed.ensures ∙ put_so c.loop-attribute.entries item (is_hashed item))

pub returns : goal.returns
returns c =
    let past : length c.args.attributes.now ≤ c.loop-attribute.attribute-index = omega arith in
    c.loop-attribute.invariant ∙ ap (λ (l : List Attribute). map attribute_entry (filter is_hashed l)) (take_all c.loop-attribute.attribute-index c.args.attributes.now past)
