use Rattle.std.proofs.Common.{◌≡◌, ◌∙◌, ℕ, List, [], Option, ap, length, map, subst}
use Rattle.std.specs.List.{zip}
use Rattle.std.specs.Map.{keys_of}
use Rattle.std.specs.Prelude.{unwrap_or}
use Rattle.std.specs.Result.{IfOk}
use Rattle.std.proofs.lemmas.List.{length-map}
use Rattle.tree_base.proofs.Pairs.{values_mapped}
use Rattle.declared_resources.proofs.labels.label_entries.Goals as goal

abbrev text_of : Option (List ℕ) → List ℕ
text_of value = unwrap_or value []

pub with_values-requires : goal.with_values-requires
with_values-requires c =
    ap (length {A = List ℕ}) c.in_ok-texts.ensures ∙ length-map c.values.result.now text_of ∙ ap (length {A = Option (List ℕ)}) c.values.ensures
    ∙ length-map c.args.pairs.now (λ e. e.1)

pub returns : goal.returns
returns c =
    subst (λ (entries : List (List ℕ × List ℕ)). IfOk c.with_values.result (λ labels. labels ≡ entries))
    (ap (zip (keys_of c.args.pairs.now)) (c.in_ok-texts.ensures ∙ ap (map text_of) c.values.ensures) ∙ values_mapped text_of c.args.pairs.now)
    c.with_values.ensures
