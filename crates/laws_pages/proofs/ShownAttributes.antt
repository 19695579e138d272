-- Attributes that are shown: what is read of them, one by one and together.
use Rattle.std.proofs.Common.{◌≡◌, ◌∙◌, ℕ, Bool, true, false, cond, List, [], ◌∷◌, ◌++◌, Some, None, Ok, Err, map, codes, refl, sym, ap, subst}
use Rattle.std.specs.Prelude.{Option, find, if◌then◌else◌, is_some, not}
use Rattle.std.specs.Option.{option_map}
use Rattle.std.specs.Str.{bytes_eq}
use Rattle.std.specs.Cmp.Lexicographic.{nat_list_eq_equiv}
use Rattle.tree_base.specs.Answers.{◌>>=◌}
use Rattle.tree_base.specs.Entries as entries
use Rattle.tree_base.specs.declared.tree.Tree.{Tree, out-Tree}
use Rattle.tree_base.specs.declared.tree.Tree.TheVariants.{Null}
use Rattle.attribute_types.specs.Tables.{Lines, form_of, line_of}
use Rattle.attribute_types.specs.Values.{value_at}
use Rattle.attribute_types.specs.declared.attribute.Attribute.{Attribute}
use Rattle.attribute_types.specs.declared.attribute.Value.{Value}
use Rattle.attribute_types.specs.declared.form.Form.{Form}
use Rattle.attribute_types.specs.declared.form.Plain.{Plain}
use Rattle.attribute_scalars.specs.Walks.{Entries, Read, in_byte_order, is_extension, is_in, is_there, own_entries, with_wanting}
use Rattle.attribute_scalars.proofs.KeptKeys.{map-by_key}
use Rattle.attribute_values.specs.Fields.{field_by, field_of, fields_of, named, unless_null}
use Rattle.attribute_values.specs.Forms.{plain_value}
use Rattle.attribute_rows.specs.Attributes.{attribute_by, attribute_under, attributes_of, form_value, wanted_of_service}
use Rattle.project_pages.specs.AttributePages.{value_node}
use Rattle.project_print.specs.Values.{value_of}
use Rattle.laws_attributes.specs.ReadBack.{entries_shown}
use Rattle.laws_pages.proofs.Each.{Each, each-by_key, each-kept, each-map, each_of-map, filter_all}
use Rattle.laws_pages.proofs.GivenEntries.{OneOf, each_given, entry_key, rises_given}
use Rattle.laws_pages.proofs.Rising.{Rises, by_key_rising, rises-by_key}
use Rattle.laws_pages.proofs.Settled.{name_of}

-- what a page shows of a value
abbrev pub shown : Attribute → Tree
shown attribute = value_of (value_node attribute.value)

-- what is read under a name is nothing or one attribute of that name
named_one : (Q : List ℕ → Type 0) (r : Read (Option Value)) (name : List ℕ) (found : List Attribute) → Q name → (r >>= λ value. Ok (named name value)) ≡ Ok found → OneOf name_of (λ a. Q a.name) name found
named_one Q (Err refusal) name found q h = absurd (cc h)
named_one Q (Ok None) name found q h = let same : [] ≡ found = cc h in subst (OneOf name_of (λ a. Q a.name) name) same tt
named_one Q (Ok (Some value)) name found q h =
    let one : Attribute = record { name = name; value = value } in
    let same : one ∷ [] ≡ found = cc h in subst (OneOf name_of (λ a. Q a.name) name) same (refl, q)

by_one : (Q : List ℕ → Type 0) (form : Option Form) (wanted : Bool) (beside : Entries) (name : List ℕ) (tree : Tree) (found : List Attribute) → Q name → attribute_by form wanted beside name tree ≡ Ok found → OneOf name_of (λ a. Q a.name) name found
by_one Q None wanted beside name tree found q h = absurd (cc h)
by_one Q (Some form) wanted beside name tree found q h = named_one Q (form_value form wanted beside tree) name found q h

pub attribute_one : (Q : List ℕ → Type 0) (wanted : List (List ℕ)) (beside : Entries) (name : List ℕ) (tree : Tree) (found : List Attribute) → Q name → attribute_under wanted beside name tree ≡ Ok found → OneOf name_of (λ a. Q a.name) name found
attribute_one Q wanted beside name tree found q h = by_one Q (form_of name) (is_in wanted name) beside name tree found q h

line_one : (Q : List ℕ → Type 0) (plain : Option Plain) (wanted : Bool) (beside : Entries) (name : List ℕ) (tree : Tree) (found : List Attribute) → Q name → field_by plain wanted beside name tree ≡ Ok found → OneOf name_of (λ a. Q a.name) name found
line_one Q None wanted beside name tree found q h = absurd (cc h)
line_one Q (Some plain) wanted beside name tree found q h = named_one Q (unless_null wanted (plain_value plain beside tree) (out-Tree tree)) name found q h

pub field_one : (Q : List ℕ → Type 0) (lines : Lines Plain) (wanted : List (List ℕ)) (beside : Entries) (name : List ℕ) (tree : Tree) (found : List Attribute) → Q name → field_of lines wanted beside name tree ≡ Ok found → OneOf name_of (λ a. Q a.name) name found
field_one Q lines wanted beside name tree found q h = line_one Q (line_of lines name) (is_in wanted name) beside name tree found q h

abbrev pub IsOwn : List ℕ → Type 0
IsOwn name = is_extension name ≡ false

abbrev IsAny : List ℕ → Type 0
IsAny name = Unit {0}

pub each_any : (es : Entries) → Each (λ e. Unit {0}) es
each_any [] = tt
each_any (e ∷ es) = (tt, each_any es)

pub each_any_attribute : (xs : List Attribute) → Each (λ x. Unit {0}) xs
each_any_attribute [] = tt
each_any_attribute (x ∷ xs) = (tt, each_any_attribute xs)

own_names : (entries : Entries) → Each (λ e. IsOwn e.0) (own_entries entries)
own_names entries = each-map (λ e. not (is_extension e.0) ≡ true) (λ e. IsOwn e.0) (λ e h. turned (is_extension e.0) h) (own_entries entries) (each-kept (λ e. not (is_extension e.0)) entries)
  where
    turned : (b : Bool) → not b ≡ true → b ≡ false
    turned true h = absurd (cc h)
    turned false h = refl

each-push : (P : List ℕ × Tree → Type 0) (es : Entries) (e : List ℕ × Tree) → Each P es → P e → Each P (es ++ e ∷ [])
each-push P [] e h p = (p, tt)
each-push P (x ∷ es) e h p = (h.0, each-push P es e h.1 p)

pub each_pushed : (P : List ℕ × Tree → Type 0) (es : Entries) (e : List ℕ × Tree) → Each P (es ++ e ∷ []) → P e
each_pushed P [] e h = h.0
each_pushed P (x ∷ es) e h = each_pushed P es e h.1

own_wanting : (names : List (List ℕ)) (es : Entries) → Each IsOwn names → Each (λ e. IsOwn e.0) es → Each (λ e. IsOwn e.0) (with_wanting names es)
own_wanting [] es are h = h
own_wanting (name ∷ names) es are h = own_wanting names (if is_some (entries.value_at es name) then es else es ++ (name, Null) ∷ []) are.1 (at (is_some (entries.value_at es name)))
  where
    at : (b : Bool) → Each (λ e. IsOwn e.0) (if b then es else es ++ (name, Null) ∷ [])
    at true = h
    at false = each-push (λ e. IsOwn e.0) es (name, Null) h are.0

wanted_own : (entries : Entries) → Each IsOwn (wanted_of_service entries)
wanted_own entries = at (is_there entries (codes "build"))
  where
    at : (b : Bool) → Each IsOwn (if b then [] else codes "image" ∷ [])
    at true = tt
    at false = (refl, tt)

-- attributes that are read stand in byte order, and none extends a file
pub attributes_rise : (entries : Entries) (attributes : List Attribute) → attributes_of entries ≡ Ok attributes → Rises name_of attributes
attributes_rise entries attributes h =
    let own = own_entries entries in let wanted = wanted_of_service own in let es : Entries = with_wanting wanted own in
    rises_given name_of (attribute_under wanted own) (λ e. Unit {0}) (λ e found g is. attribute_one IsAny wanted own e.0 e.1 found tt is)
    (in_byte_order es) attributes (each_any (in_byte_order es)) (rises-by_key entry_key es) h

pub attributes_own : (entries : Entries) (attributes : List Attribute) → attributes_of entries ≡ Ok attributes → Each (λ a. IsOwn a.name) attributes
attributes_own entries attributes h =
    let own = own_entries entries in let wanted = wanted_of_service own in let es : Entries = with_wanting wanted own in
    each_given name_of (attribute_under wanted own) (λ e. IsOwn e.0) (λ a. IsOwn a.name) (λ e found g is. attribute_one IsOwn wanted own e.0 e.1 found g is)
    (in_byte_order es) attributes (each-by_key entry_key (λ e. IsOwn e.0) es (own_wanting wanted own (wanted_own own) (own_names entries))) h

pub fields_rise : (lines : Lines Plain) (entries : Entries) (attributes : List Attribute) → fields_of lines [] entries ≡ Ok attributes → Rises name_of attributes
fields_rise lines entries attributes h =
    rises_given name_of (field_of lines [] entries) (λ e. Unit {0}) (λ e found g is. field_one IsAny lines [] entries e.0 e.1 found tt is)
    (in_byte_order entries) attributes (each_any (in_byte_order entries)) (rises-by_key entry_key entries) h

pub fields_own : (lines : Lines Plain) (entries : Entries) (attributes : List Attribute) → fields_of lines [] (own_entries entries) ≡ Ok attributes → Each (λ a. IsOwn a.name) attributes
fields_own lines entries attributes h =
    each_given name_of (field_of lines [] (own_entries entries)) (λ e. IsOwn e.0) (λ a. IsOwn a.name) (λ e found g is. field_one IsOwn lines [] (own_entries entries) e.0 e.1 found g is)
    (in_byte_order (own_entries entries)) attributes (each-by_key entry_key (λ e. IsOwn e.0) (own_entries entries) (own_names entries)) h

-- what is shown of attributes that stand in order stands in order, and extends no file
pub shown_order : (attributes : List Attribute) → Rises name_of attributes → in_byte_order (entries_shown attributes) ≡ entries_shown attributes
shown_order attributes rise =
    sym (map-by_key (λ (a : Attribute). (a.name, shown a)) entry_key attributes) ∙ ap (map (λ (a : Attribute). (a.name, shown a))) (by_key_rising name_of attributes rise)

pub shown_own : (attributes : List Attribute) → Each (λ a. IsOwn a.name) attributes → own_entries (entries_shown attributes) ≡ entries_shown attributes
shown_own attributes own =
    filter_all (λ e. not (is_extension e.0)) (entries_shown attributes)
    (each_of-map (λ (a : Attribute). (a.name, shown a)) (λ e. not (is_extension e.0) ≡ true) attributes (each-map (λ a. IsOwn a.name) (λ a. not (is_extension a.name) ≡ true) (λ a h. ap not h) attributes own))

pub shown_value : (attributes : List Attribute) (name : List ℕ) → entries.value_at (entries_shown attributes) name ≡ option_map (λ value. value_of (value_node value)) (value_at attributes name)
shown_value [] name = refl
shown_value (a ∷ attributes) name =
    ap (λ (b : Bool). cond b (Some (shown a)) (entries.value_at (entries_shown attributes) name)) (nat_list_eq_equiv.symm name a.name)
    ∙ at (bytes_eq a.name name) (shown_value attributes name)
  where
    at : (b : Bool) → entries.value_at (entries_shown attributes) name ≡ option_map (λ value. value_of (value_node value)) (value_at attributes name)
        → cond b (Some (shown a)) (entries.value_at (entries_shown attributes) name) ≡ option_map (λ value. value_of (value_node value)) (option_map (λ attribute. attribute.value) (cond b (Some a) (find (λ x. bytes_eq x.name name) attributes)))
    at true rest = refl
    at false rest = rest
