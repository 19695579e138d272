use Rattle.std.proofs.Common.{◌∙◌, List, ℕ, sym, rules, tests}
use Rattle.std.specs.Str.{bytes_eq}
use Rattle.std.proofs.lemmas.Iterator.{YieldsList-from_slice}
use Rattle.std.proofs.lemmas.Iterator.Search.{any_from_yields_List}
use denote.Ref.{Bor}
use Rattle.attribute_values.proofs.Seen.{any_seen}
use Rattle.attribute_values.proofs.fields.is_wanted.Goals as goal

pub returns : goal.returns
returns c =
    let wanted = c.args.wanted.now in
    let name = c.args.name.now in
    any_from_yields_List (λ (other : Bor (List ℕ)). bytes_eq name other.now) _ _ c.any.result c.any.ensures.ran (YieldsList-from_slice wanted cc) (λ x b q k. search (rules, tests))
    ∙ sym (any_seen (bytes_eq name) (λ (other : Bor (List ℕ)). other.now) wanted)
