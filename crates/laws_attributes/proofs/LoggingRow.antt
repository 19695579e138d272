-- Where output goes is read again.
use Rattle.std.proofs.Common.{◌≡◌, ◌∙◌, ℕ, List, [], ◌∷◌, codes, Some, None, Ok, unwrap_or, refl, ap, sym, subst}
use Rattle.std.specs.Prelude.{Option}
use Rattle.std.specs.Option.{option_map}
use Rattle.tree_base.specs.Answers.{◌>>=◌}
use Rattle.tree_base.specs.declared.tree.Tree.{Tree, out-Tree}
use Rattle.tree_base.specs.declared.tree.Tree.TheOpen.{Tree-F}
use Rattle.attribute_types.specs.Lookups.{as_pairs, as_text, pairs_at, text_at}
use Rattle.attribute_types.specs.Tables.{line_of, logging_lines}
use Rattle.attribute_types.specs.Values.{value_at}
use Rattle.attribute_types.specs.declared.attribute.Attribute.{Attribute}
use Rattle.attribute_types.specs.declared.attribute.Value.{Value}
use Rattle.attribute_types.specs.declared.form.Plain.{Plain}
use Rattle.attribute_types.specs.declared.form.Row.{Row}
use Rattle.attribute_types.specs.declared.rows.Logging.{Logging}
use Rattle.attribute_scalars.specs.Lists.{if_any, pairs_of}
use Rattle.attribute_scalars.specs.Scalars.{text_of}
use Rattle.attribute_scalars.specs.Walks.{Entries, Read}
use Rattle.attribute_values.specs.Fields.{fields_of}
use Rattle.attribute_rows.specs.Rows.{in_mapping, logging_from, logging_of}
use Rattle.laws_attributes.proofs.Gifts.{shown_by}
use Rattle.laws_attributes.proofs.PlainForms.{Back, bound_given, map_there}
use Rattle.laws_attributes.proofs.RowFields.{LeafAt, made_at, mapped_row, rows_back}
use Rattle.laws_attributes.proofs.RowForms.{RowAgain, any_or_none, found_at, makes_any, makes_kept, none_left, pairs_made, present_found, text_made}
use Rattle.laws_attributes.proofs.RowWalks.{mapping_again, mapping_read}
use Rattle.laws_attributes.proofs.Shown.{leaf, logging_rows, present}

driver_line : line_of logging_lines (codes "driver") ≡ Some Plain.Text
unfolding logging_lines
driver_line = refl

options_line : line_of logging_lines (codes "options") ≡ Some Plain.Pairs
unfolding logging_lines
options_line = refl

-- what is made of attributes, of which there are some
abbrev logging_by : List Attribute → Logging
logging_by l = record { driver = text_at l (codes "driver"); options = unwrap_or (pairs_at l (codes "options")) [] }

from_some : (l : List Attribute) → (l ≡ [] → ⊥) → logging_from l ≡ Some (Value.Logging (logging_by l))
from_some [] some = absurd (some refl)
from_some (a ∷ others) some = refl

from_given : (l : List Attribute) (v : Value) → logging_from l ≡ Some v → (l ≡ [] → ⊥) × (Value.Logging (logging_by l) ≡ v)
from_given [] v e = absurd (cc e)
from_given (a ∷ others) v e = (λ none. cc none, cc e)

module _ (es : Entries) (attributes : List Attribute) (f : fields_of logging_lines [] es ≡ Ok attributes)
    (d : Option (List ℕ)) (d_is : value_at attributes (codes "driver") ≡ option_map Value.Text d) (d_back : (x : List ℕ) → d ≡ Some x → Back Plain.Text (Value.Text x))
    (p : Option (List (List ℕ × Option (List ℕ)))) (p_is : value_at attributes (codes "options") ≡ option_map Value.Pairs p)
    (p_back : (x : List (List ℕ × Option (List ℕ))) → p ≡ Some x → Back Plain.Pairs (Value.Pairs x) × (if_any x ≡ Some x)) where
  abbrev made : Logging
  made = record { driver = d; options = unwrap_or p [] }

  abbrev again : List Attribute
  again = present (logging_rows made)

  made_is : logging_by attributes ≡ made
  made_is = (λ i. record { driver = found_at as_text Value.Text text_made attributes (codes "driver") d d_is i; options = unwrap_or (found_at as_pairs Value.Pairs pairs_made attributes (codes "options") p p_is i) [] })

  any : if_any (unwrap_or p []) ≡ p
  any = any_or_none p (λ xs e. (p_back xs e).1)

  read : fields_of logging_lines [] (shown_by leaf again) ≡ Ok again
  read =
      rows_back logging_lines [] (logging_rows made) refl tt (
        mapped_row (LeafAt logging_lines) (codes "driver") Value.Text d (λ x e. (Plain.Text, driver_line, d_back x e, refl)),
        (mapped_row (LeafAt logging_lines) (codes "options") Value.Pairs (if_any (unwrap_or p [])) (λ x e. (Plain.Pairs, options_line, (p_back x (sym any ∙ e)).0, refl)), tt),
      )

  driver_again : text_at again (codes "driver") ≡ d
  driver_again = present_found as_text Value.Text text_made (logging_rows made) (codes "driver") d refl

  options_again : pairs_at again (codes "options") ≡ p
  options_again = present_found as_pairs Value.Pairs pairs_made (logging_rows made) (codes "options") (if_any (unwrap_or p [])) refl ∙ any

  again_is : logging_by again ≡ made
  again_is = (λ i. record { driver = driver_again i; options = unwrap_or (options_again i) [] })

  no_driver : again ≡ [] → value_at attributes (codes "driver") ≡ None
  no_driver none = d_is ∙ ap (option_map Value.Text) (sym driver_again ∙ ap (λ l. text_at l (codes "driver")) none)

  no_options : again ≡ [] → value_at attributes (codes "options") ≡ None
  no_options none = p_is ∙ ap (option_map Value.Pairs) (sym options_again ∙ ap (λ l. pairs_at l (codes "options")) none)

  none_again : again ≡ [] → attributes ≡ []
  unfolding logging_lines
  none_again none = none_left logging_lines [] es attributes f (no_driver none, (no_options none, tt))

  parts_again : (attributes ≡ [] → ⊥) → (v : Value) → Value.Logging (logging_by attributes) ≡ v → RowAgain Row.Logging v
  parts_again some v is =
      subst (RowAgain Row.Logging) (ap (λ r. Value.Logging r) (sym made_is) ∙ is) (
        map_there _,
        ap (λ r. r >>= λ l. ok_value (logging_from l)) (mapping_again (fields_of logging_lines []) (shown_by leaf again) again read)
            ∙ ap ok_value (from_some again (λ none. some (none_again none)) ∙ ap (λ r. Some (Value.Logging r)) again_is),
      )
    where
      ok_value : Option Value → Read (Option Value)
      ok_value o = Ok o

pub logging_again : (s : Tree-F Tree) (v : Value) → logging_of s ≡ Ok (Some v) → RowAgain Row.Logging v
logging_again s v e =
    let b = bound_given (in_mapping (fields_of logging_lines []) s) (λ attributes. ok_value (logging_from attributes)) (Some v) e in
    let m = mapping_read (fields_of logging_lines []) s b.0 b.1 in
    let g = from_given b.0 v (let same : logging_from b.0 ≡ Some v = cc b.2 in same) in
    let d =
    made_at logging_lines [] m.0 b.0 m.1 Value.Text (λ x. Back Plain.Text (Value.Text x)) (codes "driver") Plain.Text driver_line
    (makes_kept Plain.Text m.0 Value.Text (λ tree. text_of (out-Tree tree)) refl (λ tree. refl)) in
    let p =
    made_at logging_lines [] m.0 b.0 m.1 Value.Pairs (λ x. Back Plain.Pairs (Value.Pairs x) × (if_any x ≡ Some x)) (codes "options") Plain.Pairs options_line
    (makes_any Plain.Pairs m.0 Value.Pairs (λ tree. pairs_of (out-Tree tree)) refl (λ tree. refl)) in
    parts_again m.0 b.0 m.1 d.0 d.1 d.2 p.0 p.1 p.2 g.0 v g.1
  where
    ok_value : Option Value → Read (Option Value)
    ok_value o = Ok o
