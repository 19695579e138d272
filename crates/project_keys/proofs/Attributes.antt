-- Attributes that are read have names in byte order, and the keys in their values differ.
use Rattle.std.proofs.Common.{◌≡◌, ℕ, Bool, true, false, cond, List, [], ◌∷◌, ◌++◌, Some, None, Ok, Err, map, codes, refl, ap, sym, ◌∙◌, subst, ◌⊎◌, inl, inr}
use Rattle.std.specs.Prelude.{All, Option, Result, filter, is_some, not}
use Rattle.std.specs.List.{IsDistinct}
use Rattle.std.specs.Map.{keys_of}
use Rattle.std.specs.Str.{bytes_eq}
use Rattle.std.proofs.lemmas.List.Elements.{All-append, All-cons, All-filter, All-nil}
use Rattle.tree_base.specs.Answers.{◌>>=◌}
use Rattle.tree_base.specs.Entries.{HasDistinctKeys, value_at}
use Rattle.tree_base.specs.declared.tree.Tree.{Tree, out-Tree}
use Rattle.tree_base.specs.declared.tree.Tree.TheOpen.{Tree-F}
use Rattle.tree_base.specs.declared.tree.Tree.TheVariants.{Map, Null, Override, Reset, Scalar, Seq, outs-Map, outs-Null, outs-Override, outs-Reset, outs-Scalar, outs-Seq}
use Rattle.attribute_paths.proofs.Trees.{of_every}
use Rattle.merge_rules.specs.Laws.{own_keys}
use Rattle.attribute_types.specs.Tables.{Lines, form_of, line_of}
use Rattle.attribute_types.specs.declared.attribute.Attribute.{Attribute}
use Rattle.attribute_types.specs.declared.attribute.Value.{Value}
use Rattle.attribute_types.specs.declared.form.Form.{Form}
use Rattle.attribute_types.specs.declared.form.Plain.{Plain}
use Rattle.attribute_types.specs.declared.form.Row.{Row}
use Rattle.attribute_scalars.specs.Walks.{Entries, Read, each_entry, in_byte_order, is_extension, is_in, own_entries, with_wanting}
use Rattle.attribute_scalars.proofs.EntryOrder.{own_distinct, wanting_distinct}
use Rattle.attribute_scalars.proofs.Ordering.{All-by_key, Rises, rises-by_key}
use Rattle.attribute_values.specs.Fields.{field_by, field_of, fields_of, named, unless_null}
use Rattle.attribute_values.specs.Forms.{plain_value}
use Rattle.attribute_rows.specs.Attributes.{attribute_by, attribute_under, attributes_from, attributes_of, form_value, wanted_of_service}
use Rattle.attribute_rows.specs.Rows.{row_value}
use Rattle.typed_project.specs.DistinctNames.{HasDistinctParts, HaveDistinctNames}
use Rattle.project_keys.proofs.Apart.{Own, map_parts, null_owns}
use Rattle.project_keys.proofs.Rising.{Single, gifts_all, gifts_rise, rises_differ}
use Rattle.project_keys.proofs.Values.{KeysDiffer, of_plain, of_row, of_unless_null}

abbrev pub name_of : Attribute → List ℕ
name_of attribute = attribute.name

abbrev pub HasParts : Attribute → Type 0
HasParts attribute = HasDistinctParts attribute.value

-- attributes in byte order of their names, whose values have keys that differ
pub record AreGood (attributes : List Attribute) : Type 0 where
  pub rise : Rises name_of attributes
  pub parts : All HasParts attributes

pub good_differ : (attributes : List Attribute) → AreGood attributes → HaveDistinctNames attributes
good_differ attributes good = record { names = rises_differ name_of attributes good.rise; parts = good.parts }

abbrev key_in : List ℕ × Tree → List ℕ
key_in entry = entry.0

-- one attribute or none, of a name
module _ (name : List ℕ) where
  named_single : (value : Option Value) (found : List Attribute) → named name value ≡ found → (found ≡ []) ⊎ ((x : Attribute) × (found ≡ x ∷ []) × (name_of x ≡ name))
  named_single None found e = inl (sym e)
  named_single (Some value) found e = inr (record { name = name; value = value }, sym e, refl)

  given_single : (given : Read (Option Value)) (found : List Attribute) → (given >>= λ value. Ok (named name value)) ≡ Ok found → (found ≡ []) ⊎ ((x : Attribute) × (found ≡ x ∷ []) × (name_of x ≡ name))
  given_single (Ok value) found e = named_single value found (cc e)
  given_single (Err refusal) found e = absurd (cc e)

  given_parts : (given : Read (Option Value)) → ((v : Value) → given ≡ Ok (Some v) → HasDistinctParts v) → (found : List Attribute) → (given >>= λ value. Ok (named name value)) ≡ Ok found → All HasParts found
  given_parts (Ok None) all found e = let none : [] ≡ found = cc e in subst (All HasParts) none (All-nil HasParts)
  given_parts (Ok (Some value)) all found e =
      let one : record { name = name; value = value } ∷ [] ≡ found = cc e in
      subst (All HasParts) one (All-cons HasParts (record { name = name; value = value }) [] (all value refl) (All-nil HasParts))
  given_parts (Err refusal) all found e = absurd (cc e)

-- what stands in a tree's own mapping has no key twice, and the mapping hasn't either
abbrev pub OwnParts : Tree-F Tree → Type 0
OwnParts (Tree-F.Map entries) = HasDistinctKeys entries × All Own entries
OwnParts tree = Unit {0}

pub own_parts : (tree : Tree) → own_keys tree ≡ true → OwnParts (out-Tree tree)
own_parts =
    of_every (λ tree. own_keys tree ≡ true → OwnParts (out-Tree tree))
    (λ own. subst OwnParts (sym outs-Null) tt)
    (λ text own. subst OwnParts (sym (outs-Scalar text)) tt)
    (λ entries all own. subst OwnParts (sym (outs-Map entries)) (map_parts entries own))
    (λ items all own. subst OwnParts (sym (outs-Seq items)) tt)
    (λ own. subst OwnParts (sym outs-Reset) tt)
    (λ inner is own. subst OwnParts (sym (outs-Override inner)) tt)

keys_from : (tree : Tree-F Tree) → OwnParts tree → KeysDiffer tree
keys_from Tree-F.Null own = tt
keys_from (Tree-F.Scalar text) own = tt
keys_from (Tree-F.Map entries) own = own.0
keys_from (Tree-F.Seq items) own = tt
keys_from Tree-F.Reset own = tt
keys_from (Tree-F.Override inner) own = tt

-- entries of different keys, under which no key stands twice
abbrev pub AreOwn : Entries → Type 0
AreOwn entries = HasDistinctKeys entries × All Own entries

none_of : (o : Option Tree) → is_some o ≡ false → o ≡ None
none_of None e = refl
none_of (Some tree) e = absurd (cc e)

-- null under the names that are wanting
wanting_own : (names : List (List ℕ)) (entries : Entries) → AreOwn entries → AreOwn (with_wanting names entries)
wanting_own [] entries own = own
wanting_own (name ∷ names) entries own = wanting_own names (cond (is_some (value_at entries name)) entries (entries ++ (name, Null) ∷ [])) (at (is_some (value_at entries name)) refl)
  where
    at : (b : Bool) → is_some (value_at entries name) ≡ b → AreOwn (cond b entries (entries ++ (name, Null) ∷ []))
    at true e = own
    at false e = (
      wanting_distinct name Null entries own.0 (none_of (value_at entries name) e),
      All-append Own entries ((name, Null) ∷ []) own.1 (All-cons Own (name, Null) [] null_owns (All-nil Own)),
    )

form_parts : (form : Form) (wanted : Bool) (beside : Entries) (tree : Tree) → own_keys tree ≡ true → (v : Value) → form_value form wanted beside tree ≡ Ok (Some v) → HasDistinctParts v
form_parts (Form.Plain plain) wanted beside tree own v e = of_unless_null HasDistinctParts (plain_value plain beside tree) (out-Tree tree) (of_plain plain beside tree (out-Tree tree)) wanted v e
form_parts (Form.Own row) wanted beside tree own v e = of_unless_null HasDistinctParts (row_value row) (out-Tree tree) (of_row row (out-Tree tree) (keys_from (out-Tree tree) (own_parts tree own))) wanted v e
form_parts Form.Consumed wanted beside tree own v e = absurd (cc e)

under_single : (form : Option Form) (wanted : Bool) (beside : Entries) (name : List ℕ) (tree : Tree) (found : List Attribute) → attribute_by form wanted beside name tree ≡ Ok found
    → (found ≡ []) ⊎ ((x : Attribute) × (found ≡ x ∷ []) × (name_of x ≡ name))
under_single None wanted beside name tree found e = absurd (cc e)
under_single (Some form) wanted beside name tree found e = given_single name (form_value form wanted beside tree) found e

under_parts : (form : Option Form) (wanted : Bool) (beside : Entries) (name : List ℕ) (tree : Tree) (found : List Attribute) → own_keys tree ≡ true → attribute_by form wanted beside name tree ≡ Ok found → All HasParts found
under_parts None wanted beside name tree found own e = absurd (cc e)
under_parts (Some form) wanted beside name tree found own e = given_parts name (form_value form wanted beside tree) (form_parts form wanted beside tree own) found e

-- the attributes of a service
pub attributes_good : (entries : Entries) → AreOwn entries → (attributes : List Attribute) → attributes_of entries ≡ Ok attributes → AreGood attributes
attributes_good entries own attributes e = record {
  rise =
      gifts_rise (attribute_under wanted kept) name_of (λ key tree found f. under_single (form_of key) (is_in wanted key) kept key tree found f) (in_byte_order all) attributes e
      (rises-by_key key_in all all_own.0);
  parts =
      gifts_all (attribute_under wanted kept) Own HasParts (λ key tree found own f. under_parts (form_of key) (is_in wanted key) kept key tree found own f) (in_byte_order all) attributes
      (All-by_key key_in Own all all_own.1) e;
}
  where
    kept : Entries
    kept = own_entries entries

    wanted : List (List ℕ)
    wanted = wanted_of_service kept

    all : Entries
    all = with_wanting wanted kept

    all_own : AreOwn all
    all_own = wanting_own wanted kept (own_distinct entries own.0, All-filter (λ entry. not (is_extension entry.0)) Own entries own.1)

field_single : (plain : Option Plain) (wanted : Bool) (beside : Entries) (name : List ℕ) (tree : Tree) (found : List Attribute) → field_by plain wanted beside name tree ≡ Ok found
    → (found ≡ []) ⊎ ((x : Attribute) × (found ≡ x ∷ []) × (name_of x ≡ name))
field_single None wanted beside name tree found e = absurd (cc e)
field_single (Some plain) wanted beside name tree found e = given_single name (unless_null wanted (plain_value plain beside tree) (out-Tree tree)) found e

field_parts : (plain : Option Plain) (wanted : Bool) (beside : Entries) (name : List ℕ) (tree : Tree) (found : List Attribute) → field_by plain wanted beside name tree ≡ Ok found → All HasParts found
field_parts None wanted beside name tree found e = absurd (cc e)
field_parts (Some plain) wanted beside name tree found e =
    given_parts name (unless_null wanted (plain_value plain beside tree) (out-Tree tree))
    (of_unless_null HasDistinctParts (plain_value plain beside tree) (out-Tree tree) (of_plain plain beside tree (out-Tree tree)) wanted) found e

-- the attributes of a mapping by a table
pub fields_good : (lines : Lines Plain) (wanted : List (List ℕ)) (entries : Entries) → AreOwn entries → (attributes : List Attribute) → fields_of lines wanted entries ≡ Ok attributes → AreGood attributes
fields_good lines wanted entries own attributes e = record {
  rise =
      gifts_rise (field_of lines wanted entries) name_of (λ key tree found f. field_single (line_of lines key) (is_in wanted key) entries key tree found f) (in_byte_order all) attributes e
      (rises-by_key key_in all all_own.0);
  parts =
      gifts_all (field_of lines wanted entries) Own HasParts (λ key tree found own f. field_parts (line_of lines key) (is_in wanted key) entries key tree found f) (in_byte_order all) attributes
      (All-by_key key_in Own all all_own.1) e;
}
  where
    all : Entries
    all = with_wanting wanted entries

    all_own : AreOwn all
    all_own = wanting_own wanted entries own
