use Rattle.std.proofs.Common.{◌∙◌, List, ap, codes, not, rules, tests}
use Rattle.std.proofs.lemmas.Fn.{filter_same}
use Rattle.std.specs.Str.{bytes_eq}
use Rattle.attribute_types.specs.declared.attribute.Attribute.{Attribute}
use Rattle.project_meaning.specs.Completing.{without}
use Rattle.project_meaning.proofs.needs.without_needs.Goals as goal

pub returns : goal.returns
returns c =
    let kept = filter_same _ (λ (attribute : Attribute). not (bytes_eq attribute.name (codes "depends_on"))) _ (λ x b f' k. search (rules, tests)) _ _ c.retain.ensures.filtered in
    c.from_vec.ensures ∙ kept ∙ ap (λ (l : List Attribute). without (codes "depends_on") l) c.into_vec-items.ensures
