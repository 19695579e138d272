use Rattle.std.proofs.Common.{◌≡◌, ◌∙◌, ◌++◌, List, [], ◌∷◌, None, map, ap, sym, subst}
use Rattle.std.specs.Prelude.{Option, is_some, if◌then◌else◌}
use Rattle.std.specs.Option.{option_copied}
use Rattle.std.proofs.lemmas.List.{map-append}
use Rattle.tree_base.specs.Entries.{HasDistinctKeys, value_at}
use Rattle.tree_base.specs.declared.Tree.{Tree, Null}
use Rattle.attribute_scalars.specs.Views.{seen_entry}
use Rattle.attribute_scalars.specs.Walks.{Entries}
use Rattle.attribute_scalars.specs.declared.entries.Entry.{Entry}
use Rattle.attribute_scalars.proofs.EntryOrder.{wanting_distinct}
use Rattle.attribute_values.proofs.fields.put_wanting.Goals as goal

pub returns-clause-value : goal.returns-clause-value
returns-clause-value c =
    let name = c.args.name.now in
    let old = map seen_entry c.args.all.now.items in
    let none : value_at old name ≡ None =
    subst (λ (list : List Entry). value_at (map seen_entry list) name ≡ None) c.as_slice.ensures.value (sym c.value_among.ensures ∙ ap option_copied c.in_default.is) in
    ap (map seen_entry) c.in_ok-push.ensures.items
    ∙ map-append seen_entry c.args.all.now.items (_ ∷ [])
    ∙ ap (λ (t : Tree). old ++ (name, t) ∷ []) c.requires.null
    ∙ sym (ap (λ (o : Option Tree). if is_some o then old else old ++ (name, Null) ∷ []) none)

pub returns-clause-distinct : goal.returns-clause-distinct
returns-clause-distinct c =
    let old = c.args.all.now.items in
    let none : value_at (map seen_entry old) c.args.name.now ≡ None =
    subst (λ (list : List Entry). value_at (map seen_entry list) c.args.name.now ≡ None) c.as_slice.ensures.value (sym c.value_among.ensures ∙ ap option_copied c.in_default.is) in
    subst (λ (es : Entries). HasDistinctKeys es) (sym (ap (map seen_entry) c.in_ok-push.ensures.items ∙ map-append seen_entry old (_ ∷ [])))
    (wanting_distinct c.args.name.now c.args.nothing.now (map seen_entry old) c.requires.keys none)
