-- What is found among attributes, and what they say of networks.
use Rattle.std.proofs.Common.{◌≡◌, ℕ, Bool, true, false, cond, List, [], ◌∷◌, Some, None, Ok, Err, map, codes, refl, ap, sym, ◌∙◌, subst}
use Rattle.std.specs.Prelude.{All, Option, filter, find, is_some}
use Rattle.std.specs.Option.{option_map}
use Rattle.std.specs.List.{AllByRecursion, IsDistinct}
use Rattle.std.specs.Str.{bytes_eq}
use Rattle.std.proofs.lemmas.Slice.Eq.{bytes_eq-Decides}
use Rattle.std.proofs.lemmas.List.Elements.{All-cons, All-head, All-nil, All-tail}
use Rattle.tree_base.specs.Answers.{◌>>=◌}
use Rattle.tree_base.specs.declared.tree.Tree.{Tree, out-Tree}
use Rattle.attribute_types.specs.Lookups.{networks_at}
use Rattle.attribute_types.specs.Tables.{form_of, host_lines, joining_lines, process_lines, resource_lines}
use Rattle.attribute_types.specs.Values as values
use Rattle.attribute_types.specs.declared.attribute.Attribute.{Attribute}
use Rattle.attribute_types.specs.declared.attribute.Value.{Value}
use Rattle.attribute_types.specs.declared.form.Form.{Form}
use Rattle.attribute_types.specs.declared.form.Row.{Row}
use Rattle.attribute_scalars.specs.Walks.{Entries, Read}
use Rattle.attribute_values.specs.Fields.{named}
use Rattle.attribute_rows.specs.Attributes.{attribute_by, form_value}
use Rattle.attribute_rows.specs.Rows.{keyed, network_use_of, row_value}
use Rattle.project_keys.proofs.Values.{of_kept_if_any, of_unless_null}

-- an attribute that is found
module _ (P : Attribute → Type 0) (name : List ℕ) where
  pub record Is (v : Value) : Type 0 where
    pub attribute : Attribute
    pub holds : P attribute
    pub named : bytes_eq attribute.name name ≡ true
    pub value : attribute.value ≡ v

  pub found_value : (attributes : List Attribute) (v : Value) → All P attributes → values.value_at attributes name ≡ Some v → Is v
  found_value [] v all e = absurd (cc e)
  found_value (attribute ∷ attributes) v all e = at (found_value attributes v (All-tail P attribute attributes all)) (bytes_eq attribute.name name) refl e
    where
      at : (values.value_at attributes name ≡ Some v → Is v) → (b : Bool) → bytes_eq attribute.name name ≡ b
          → option_map (λ (a : Attribute). a.value) (cond b (Some attribute) (find (λ (a : Attribute). bytes_eq a.name name) attributes)) ≡ Some v → Is v
      at rest true f g = record { attribute = attribute; holds = All-head P attribute attributes all; named = f; value = cc g }
      at rest false f g = rest g

-- keys of what is left differ
module _ {X : Type 0} (key : X → List ℕ) (p : X → Bool) where
  apart_left : (k : List ℕ) (xs : List X) → AllByRecursion (λ t. bytes_eq k t ≡ false) (map key xs) → AllByRecursion (λ t. bytes_eq k t ≡ false) (map key (filter p xs))
  apart_left k [] h = tt
  apart_left k (x ∷ xs) h = at (apart_left k xs h.1) (p x)
    where
      at : AllByRecursion (λ t. bytes_eq k t ≡ false) (map key (filter p xs)) → (b : Bool) → AllByRecursion (λ t. bytes_eq k t ≡ false) (map key (cond b (x ∷ filter p xs) (filter p xs)))
      at rest true = (h.0, rest)
      at rest false = rest

  pub differ_left : (xs : List X) → IsDistinct bytes_eq (map key xs) → IsDistinct bytes_eq (map key (filter p xs))
  unfolding IsDistinct
  differ_left [] d = tt
  differ_left (x ∷ xs) d = at (differ_left xs d.1) (p x)
    where
      at : IsDistinct bytes_eq (map key (filter p xs)) → (b : Bool) → IsDistinct bytes_eq (map key (cond b (x ∷ filter p xs) (filter p xs)))
      at rest true = (apart_left (key x) xs d.0, rest)
      at rest false = rest

-- networks that are joined
abbrev pub IsNetworks : Value → Type 0
IsNetworks (Value.Networks networks) = Unit {0}
IsNetworks value = ⊥

-- an attribute named so has such
abbrev pub NamesNetworks : Attribute → Type 0
NamesNetworks attribute = bytes_eq attribute.name (codes "networks") ≡ true → IsNetworks attribute.value

networks_form : form_of (codes "networks") ≡ Some (Form.Own Row.Networks)
unfolding process_lines host_lines resource_lines joining_lines
networks_form = refl

given_all : (P : Attribute → Type 0) (name : List ℕ) (given : Read (Option Value)) → ((v : Value) → given ≡ Ok (Some v) → P (record { name = name; value = v })) → (found : List Attribute)
    → (given >>= λ value. Ok (named name value)) ≡ Ok found → All P found
given_all P name (Ok None) all found e = let none : [] ≡ found = cc e in subst (All P) none (All-nil P)
given_all P name (Ok (Some value)) all found e =
    let one : record { name = name; value = value } ∷ [] ≡ found = cc e in
    subst (All P) one (All-cons P (record { name = name; value = value }) [] (all value refl) (All-nil P))
given_all P name (Err refusal) all found e = absurd (cc e)

networks_value : (form : Form) → form ≡ Form.Own Row.Networks → (wanted : Bool) (beside : Entries) (tree : Tree) (v : Value) → form_value form wanted beside tree ≡ Ok (Some v) → IsNetworks v
networks_value form is wanted beside tree v e =
    of_unless_null IsNetworks (row_value Row.Networks) (out-Tree tree) (of_kept_if_any IsNetworks Value.Networks (keyed network_use_of (out-Tree tree)) (λ xs f. tt)) wanted v
    (ap (λ (f : Form). form_value f wanted beside tree) (sym is) ∙ e)

pub under_networks : (wanted : Bool) (beside : Entries) (name : List ℕ) (tree : Tree) (found : List Attribute) → attribute_by (form_of name) wanted beside name tree ≡ Ok found → All NamesNetworks found
under_networks wanted beside name tree found e = by (form_of name) refl e
  where
    is_form : (form : Form) → form_of name ≡ Some form → bytes_eq name (codes "networks") ≡ true → form ≡ Form.Own Row.Networks
    is_form form f same =
        let all : Some form ≡ Some (Form.Own Row.Networks) = sym f ∙ ap form_of ((bytes_eq-Decides name (codes "networks")).0 same) ∙ networks_form in cc all

    by : (o : Option Form) → form_of name ≡ o → attribute_by o wanted beside name tree ≡ Ok found → All NamesNetworks found
    by None f g = absurd (cc g)
    by (Some form) f g =
        given_all NamesNetworks name (form_value form wanted beside tree) (λ v h same. networks_value form (is_form form f same) wanted beside tree v h) found g

is_networks : (attributes : List Attribute) → All NamesNetworks attributes → (o : Option Value) → values.value_at attributes (codes "networks") ≡ o → is_some (networks_at attributes (codes "networks")) ≡ false → is_some o ≡ false
is_networks attributes all None e none = refl
is_networks attributes all (Some v) e none =
    let found = found_value NamesNetworks (codes "networks") attributes v all e in
    by v e (subst IsNetworks found.value (found.holds found.named))
  where
    by : (v : Value) → values.value_at attributes (codes "networks") ≡ Some v → IsNetworks v → true ≡ false
    by (Value.Networks networks) f is = sym (rw f refl) ∙ none
    by other f is = absurd is

-- where no networks are found, no attribute is named so
pub no_networks : (attributes : List Attribute) → All NamesNetworks attributes → is_some (networks_at attributes (codes "networks")) ≡ false → is_some (values.value_at attributes (codes "networks")) ≡ false
no_networks attributes all none = is_networks attributes all (values.value_at attributes (codes "networks")) refl none
