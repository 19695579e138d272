-- Dependencies are read again.
use Rattle.std.proofs.Common.{◌≡◌, ◌∙◌, ℕ, Bool, true, false, List, [], ◌∷◌, map, codes, Some, Ok, is_some, inr, unwrap_or, refl, ap, sym, subst}
use Rattle.std.specs.Option.{option_and_then}
use Rattle.tree_base.specs.Answers.{◌>>=◌}
use Rattle.tree_base.specs.declared.tree.Tree.{Tree, out-Tree}
use Rattle.tree_base.specs.declared.tree.Tree.TheOpen.{Tree-F}
use Rattle.tree_base.specs.declared.tree.Tree.TheVariants.{Map, outs-Map}
use Rattle.attribute_types.specs.Lookups.{as_bool, as_text, bool_at}
use Rattle.attribute_types.specs.Tables.{dependency_lines, line_of}
use Rattle.attribute_types.specs.declared.attribute.Value.{Value}
use Rattle.attribute_types.specs.declared.form.Plain.{Plain}
use Rattle.attribute_types.specs.declared.form.Row.{Row}
use Rattle.attribute_types.specs.declared.form.WordSet.TheVariants as words
use Rattle.attribute_types.specs.declared.rows.Dependency.{Dependency}
use Rattle.attribute_types.specs.declared.rows.DependencyCondition.{DependencyCondition}
use Rattle.attribute_scalars.specs.Walks.{Read}
use Rattle.attribute_values.specs.Fields.{fields_of}
use Rattle.attribute_rows.specs.Rows.{condition_of, dependency_from, dependency_of, in_mapping, keyed, row_value}
use Rattle.laws_attributes.proofs.Gifts.{shown_by}
use Rattle.laws_attributes.proofs.PlainForms.{Back, any_back, any_given, bool_shown, bound_given, flag_shown, map_there}
use Rattle.laws_attributes.proofs.PortRow.{word_shown}
use Rattle.laws_attributes.proofs.RowFields.{LeafAt, OfRow, one_row, present_at, rows_back}
use Rattle.laws_attributes.proofs.RowForms.{RowAgain, bool_made, flag_found, or_none, present_found, text_made}
use Rattle.laws_attributes.proofs.RowWalks.{IsRead, Single, keyed_again}
use Rattle.laws_attributes.proofs.Shown.{condition_text, flag_value, leaf, need_rows, need_tree, present, rows_tree}

condition_line : line_of dependency_lines (codes "condition") ≡ Some (Plain.Word words.Conditions)
unfolding dependency_lines
condition_line = refl

required_line : line_of dependency_lines (codes "required") ≡ Some Plain.Bool
unfolding dependency_lines
required_line = refl

restart_line : line_of dependency_lines (codes "restart") ≡ Some Plain.Flag
unfolding dependency_lines
restart_line = refl

condition_back : (condition : DependencyCondition) → Back (Plain.Word words.Conditions) (Value.Text (condition_text condition))
condition_back DependencyCondition.Started = word_shown words.Conditions (codes "service_started") refl
condition_back DependencyCondition.Healthy = word_shown words.Conditions (codes "service_healthy") refl
condition_back DependencyCondition.Completed = word_shown words.Conditions (codes "service_completed_successfully") refl

condition_again : (condition : DependencyCondition) → condition_of (Some (condition_text condition)) ≡ condition
condition_again DependencyCondition.Started = refl
condition_again DependencyCondition.Healthy = refl
condition_again DependencyCondition.Completed = refl

flag_row : (set : Bool) → OfRow (LeafAt dependency_lines) (codes "restart", flag_value set)
flag_row true v e = one_row (LeafAt dependency_lines) (codes "restart") (Value.Bool true) (Plain.Flag, restart_line, flag_shown, refl) v e
flag_row false v e = absurd (cc e)

abbrev need_key : Dependency → List ℕ
need_key need = need.key

abbrev need_shown : Dependency → Tree
need_shown need = rows_tree (need_rows need)

restart_found : (need : Dependency) → is_some (bool_at (present (need_rows need)) (codes "restart")) ≡ need.restart
restart_found need = ap (λ o. is_some (option_and_then as_bool o)) (present_at (need_rows need) (codes "restart") ∙ or_none (flag_value need.restart)) ∙ flag_found need.restart

-- each dependency is read again
need_read : (need : Dependency) → IsRead need_key need_shown dependency_of need
need_read need =
    let l = present (need_rows need) in
    let read : fields_of dependency_lines [] (shown_by leaf l) ≡ Ok l =
    rows_back dependency_lines [] (need_rows need) refl tt (
      one_row (LeafAt dependency_lines) (codes "condition") (Value.Text (condition_text need.condition)) (Plain.Word words.Conditions, condition_line, condition_back need.condition, refl),
      (
        one_row (LeafAt dependency_lines) (codes "required") (Value.Bool need.required) (Plain.Bool, required_line, bool_shown need.required, refl),
        (flag_row need.restart, tt),
      ),
    ) in
    let same : dependency_from need.key l ≡ need = (λ i. record {
      key = need.key;
      condition = (ap condition_of (present_found as_text Value.Text text_made (need_rows need) (codes "condition") (Some (condition_text need.condition)) refl) ∙ condition_again need.condition) i;
      required = unwrap_or (present_found as_bool Value.Bool bool_made (need_rows need) (codes "required") (Some need.required) refl i) true;
      restart = restart_found need i;
    }) in
    ap (dependency_of need.key) (outs-Map (shown_by leaf l))
    ∙ ap (λ r. r >>= λ attributes. one_need (dependency_from need.key attributes)) read
    ∙ ap one_need same
  where
    one_need : Dependency → Read (List Dependency)
    one_need need = Ok (need ∷ [])

need_of : (key : List ℕ) (s : Tree-F Tree) (xs : List Dependency) → (in_mapping (fields_of dependency_lines []) s >>= λ attributes. Ok (dependency_from key attributes ∷ [])) ≡ Ok xs
    → Single need_key need_shown dependency_of key xs
need_of key s xs e =
    let b = bound_given (in_mapping (fields_of dependency_lines []) s) (λ attributes. one_need (dependency_from key attributes)) xs e in
    let need = dependency_from key b.0 in
    let whole : need ∷ [] ≡ xs = cc b.2 in inr (need, sym whole, refl, need_read need)
  where
    one_need : Dependency → Read (List Dependency)
    one_need need = Ok (need ∷ [])

need_single : (key : List ℕ) (s : Tree-F Tree) (xs : List Dependency) → dependency_of key s ≡ Ok xs → Single need_key need_shown dependency_of key xs
need_single key Tree-F.Null xs e =
    let need = dependency_from key [] in
    let whole : need ∷ [] ≡ xs = cc e in inr (need, sym whole, refl, need_read need)
need_single key (Tree-F.Map es) xs e = need_of key (Tree-F.Map es) xs e
need_single key (Tree-F.Scalar text) xs e = need_of key (Tree-F.Scalar text) xs e
need_single key (Tree-F.Seq items) xs e = need_of key (Tree-F.Seq items) xs e
need_single key Tree-F.Reset xs e = need_of key Tree-F.Reset xs e
need_single key (Tree-F.Override inner) xs e = need_of key (Tree-F.Override inner) xs e

pub needs_again : (s : Tree-F Tree) (v : Value) → row_value Row.Dependencies s ≡ Ok (Some v) → RowAgain Row.Dependencies v
needs_again s v e =
    let k = any_given Value.Dependencies (keyed dependency_of s) v e in
    subst (RowAgain Row.Dependencies) k.3
    (map_there _, any_back Value.Dependencies (keyed dependency_of (out-Tree (Map (map need_tree k.0)))) k.0 (keyed_again need_key need_shown dependency_of need_single s k.0 k.1) k.2)
