-- Attributes of a network or a volume that are read again from what is shown of them, also when a
-- name is put in.
use Rattle.std.proofs.Common.{◌≡◌, ◌∙◌, ℕ, Bool, true, false, cond, List, [], ◌∷◌, Ok, codes, refl, sym, ap}
use Rattle.std.specs.Prelude.{◌||◌, Option, if◌then◌else◌, is_some}
use Rattle.std.specs.List.{list_any}
use Rattle.std.specs.Option.{option_and_then, option_map_or}
use Rattle.std.specs.Str.{bytes_eq}
use Rattle.tree_base.specs.ByteOrder.{is_before, placed}
use Rattle.tree_base.specs.declared.tree.Tree.{Tree, out-Tree}
use Rattle.attribute_types.specs.Tables.{Lines, network_lines, volume_lines}
use Rattle.attribute_types.specs.Values.{value_at}
use Rattle.attribute_types.specs.declared.attribute.Attribute.{Attribute}
use Rattle.attribute_types.specs.declared.attribute.Value.{Value}
use Rattle.attribute_types.specs.declared.form.Plain.{Plain}
use Rattle.attribute_scalars.specs.Scalars.{text_in}
use Rattle.attribute_scalars.specs.Walks.{Entries, each_entry, own_entries}
use Rattle.attribute_values.specs.Fields.{field_of, fields_of}
use Rattle.attribute_values.specs.Forms.{is_of_own}
use Rattle.project_meaning.specs.Meaning.{name_for, with_name}
use Rattle.laws_attributes.specs.ReadBack.{entries_shown}
use Rattle.laws_pages.proofs.Beside.{Looks, field_again, looks_all}
use Rattle.laws_pages.proofs.Each.{Each, each-map, each-placed}
use Rattle.laws_pages.proofs.GivenEntries.{all_back, each_back}
use Rattle.laws_pages.proofs.Rising.{Rises, rises-placed}
use Rattle.laws_pages.proofs.Settled.{name_of, value-placed, value-placed_other}
use Rattle.laws_pages.proofs.SettledBack.{same_networks, same_replicas, shown_same, text_seen}
use Rattle.laws_pages.proofs.ShownAttributes.{IsOwn, each_any_attribute, field_one, shown, shown_order, shown_own}

-- an attribute that is a name
abbrev pub name_of_text : List ℕ → Attribute
name_of_text text = record { name = codes "name"; value = Value.Text text }

-- an attribute is read again by itself, beside others
abbrev pub IsField : Lines Plain → Entries → Attribute → Type 0
IsField lines beside a = field_of lines [] beside a.name (shown a) ≡ Ok (a ∷ [])

pub network_name : (beside : Entries) (text : List ℕ) → IsField network_lines beside (name_of_text text)
unfolding network_lines
network_name beside text = rw text_seen refl

pub volume_name : (beside : Entries) (text : List ℕ) → IsField volume_lines beside (name_of_text text)
unfolding volume_lines
volume_name beside text = rw text_seen refl

any_name : (text : List ℕ) (attributes : List Attribute) → list_any is_of_own (entries_shown (placed name_of (name_of_text text) attributes)) ≡ list_any is_of_own (entries_shown attributes)
any_name text [] = refl
any_name text (a ∷ attributes) = at (is_before a.name (codes "name")) (any_name text attributes)
  where
    at : (b : Bool) → list_any is_of_own (entries_shown (placed name_of (name_of_text text) attributes)) ≡ list_any is_of_own (entries_shown attributes)
        → list_any is_of_own (entries_shown (cond b (a ∷ placed name_of (name_of_text text) attributes) (name_of_text text ∷ a ∷ attributes))) ≡ list_any is_of_own (entries_shown (a ∷ attributes))
    at true rest = ap (λ b. is_of_own (a.name, shown a) || b) rest
    at false rest = refl

-- fields that are each read again are read together
pub fields_back : (lines : Lines Plain) (attributes : List Attribute) → Rises name_of attributes → Each (λ a. IsOwn a.name) attributes → Each (IsField lines (entries_shown attributes)) attributes
    → fields_of lines [] (own_entries (entries_shown attributes)) ≡ Ok attributes
fields_back lines attributes rise own each =
    ap (fields_of lines []) (shown_own attributes own)
    ∙ ap (each_entry (field_of lines [] (entries_shown attributes))) (shown_order attributes rise)
    ∙ all_back name_of (field_of lines [] (entries_shown attributes)) shown attributes each

module _ (lines : Lines Plain) (reads_name : (beside : Entries) (text : List ℕ) → IsField lines beside (name_of_text text)) (attributes : List Attribute) (rise : Rises name_of attributes) (own : Each (λ a. IsOwn a.name) attributes)
    (back : fields_of lines [] (own_entries (entries_shown attributes)) ≡ Ok attributes) where
  each_field : Each (IsField lines (entries_shown attributes)) attributes
  each_field =
      each_back name_of (field_of lines [] (entries_shown attributes)) shown (λ a. Unit {0})
      (λ a found u is. field_one (λ name. Unit {0}) lines [] (entries_shown attributes) a.name (shown a) found tt is) attributes (each_any_attribute attributes)
      (sym (ap (fields_of lines []) (shown_own attributes own) ∙ ap (each_entry (field_of lines [] (entries_shown attributes))) (shown_order attributes rise)) ∙ back)

  abbrev with_text : List ℕ → List Attribute
  with_text text = placed name_of (name_of_text text) attributes

  same_value : (text name : List ℕ) → bytes_eq (codes "name") name ≡ false → value_at (with_text text) name ≡ value_at attributes name
  same_value text name other = value-placed_other (name_of_text text) name attributes other

  looks_same : (text : List ℕ) (plain : Plain) → Looks plain (entries_shown (with_text text)) (entries_shown attributes)
  looks_same text =
      looks_all (entries_shown (with_text text)) (entries_shown attributes) (same_replicas (with_text text) attributes (same_value text (codes "deploy") refl))
      (same_networks (with_text text) attributes (same_value text (codes "networks") refl)) (any_name text attributes)
      (ap (λ (o : Option Tree). option_map_or (bytes_eq (codes "bind")) (option_and_then (λ tree. text_in (out-Tree tree)) o) false) (shown_same (with_text text) attributes (codes "type") (same_value text (codes "type") refl)))

  with_back : (text : List ℕ) → fields_of lines [] (own_entries (entries_shown (with_text text))) ≡ Ok (with_text text)
  with_back text =
      fields_back lines (with_text text) (rises-placed name_of (name_of_text text) attributes rise) (each-placed name_of (λ a. IsOwn a.name) (name_of_text text) attributes refl own)
      (each-placed name_of (IsField lines (entries_shown (with_text text))) (name_of_text text) attributes (reads_name (entries_shown (with_text text)) text)
      (each-map (IsField lines (entries_shown attributes)) (IsField lines (entries_shown (with_text text)))
      (λ a h. field_again (entries_shown (with_text text)) (entries_shown attributes) lines [] a.name (shown a) (looks_same text) ∙ h) attributes each_field))

  -- they are read again when a name is put in
  pub named_back : (project key : List ℕ) → fields_of lines [] (own_entries (entries_shown (with_name project key attributes))) ≡ Ok (with_name project key attributes)
  named_back project key = at (is_some (value_at attributes (codes "name")))
    where
      at : (b : Bool) → fields_of lines [] (own_entries (entries_shown (if b then attributes else with_text (name_for project key attributes)))) ≡ Ok (if b then attributes else with_text (name_for project key attributes))
      at true = back
      at false = with_back (name_for project key attributes)

-- what has a name keeps it
pub is_named_after : (project key : List ℕ) (attributes : List Attribute) → is_some (value_at (with_name project key attributes) (codes "name")) ≡ true
is_named_after project key attributes = at (is_some (value_at attributes (codes "name"))) refl
  where
    at : (b : Bool) → is_some (value_at attributes (codes "name")) ≡ b → is_some (value_at (if b then attributes else placed name_of (name_of_text (name_for project key attributes)) attributes) (codes "name")) ≡ true
    at true e = e
    at false e = ap is_some (value-placed (name_of_text (name_for project key attributes)) attributes)

pub named_already : (project key : List ℕ) (attributes : List Attribute) → is_some (value_at attributes (codes "name")) ≡ true → with_name project key attributes ≡ attributes
named_already project key attributes h = ap (λ (b : Bool). if b then attributes else placed name_of (name_of_text (name_for project key attributes)) attributes) h
