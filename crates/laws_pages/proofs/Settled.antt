-- A service that is settled: what its attributes say, and that settling it once more changes nothing.
use Rattle.std.proofs.Common.{◌≡◌, ◌∙◌, ℕ, Bool, true, false, List, [], ◌∷◌, None, Some, codes, refl, ap}
use Rattle.std.specs.Prelude.{◌||◌, Option, filter, if◌then◌else◌, is_some, not, unwrap_or}
use Rattle.std.specs.Option.{option_and_then, option_map}
use Rattle.std.specs.Str.{bytes_eq}
use Rattle.std.proofs.lemmas.Slice.Eq.{bytes_eq-Decides}
use Rattle.tree_base.specs.ByteOrder.{placed}
use Rattle.attribute_types.specs.Lookups.{as_dependencies, as_networks, text_at}
use Rattle.attribute_types.specs.Values.{value_at}
use Rattle.attribute_types.specs.declared.attribute.Attribute.{Attribute}
use Rattle.attribute_types.specs.declared.attribute.Value.{Value}
use Rattle.attribute_types.specs.declared.rows.Dependency.{Dependency}
use Rattle.attribute_scalars.specs.Lists.{if_any}
use Rattle.attribute_scalars.specs.Walks.{is_in}
use Rattle.typed_project.specs.declared.service.Service.{Service}
use Rattle.service_graph.specs.Cycles.{dependencies_of}
use Rattle.project_meaning.specs.Completing.{default_key, needs_there, says_networks, settled, with_default, with_value, without, without_missing}
use Rattle.laws_pages.proofs.Each.{filter-filter}
use Rattle.laws_pages.proofs.Finding.{find-filter, find-filter_none, find-placed, find-placed_out}
use Rattle.laws_pages.proofs.Rising.{Rises, filter-placed, filter-placed_out, placed-placed, rises-filter, rises-placed}

abbrev pub name_of : Attribute → List ℕ
name_of attribute = attribute.name

abbrev pub is_named : List ℕ → Attribute → Bool
is_named name attribute = bytes_eq attribute.name name

abbrev pub is_other : List ℕ → Attribute → Bool
is_other name attribute = not (bytes_eq attribute.name name)

-- the value of an attribute that is found
abbrev found_value : Option Attribute → Option Value
found_value found = option_map (λ attribute. attribute.value) found

-- an attribute of another name changes no value
pub value-placed_other : (new : Attribute) (name : List ℕ) (attributes : List Attribute) → bytes_eq new.name name ≡ false → value_at (placed name_of new attributes) name ≡ value_at attributes name
value-placed_other new name attributes other = ap found_value (find-placed_out name_of (is_named name) new attributes other)

pub value-placed : (new : Attribute) (attributes : List Attribute) → value_at (placed name_of new attributes) new.name ≡ Some new.value
value-placed new attributes = ap found_value (find-placed name_of new attributes)

pub value-with_other : (new name : List ℕ) (value : Option Value) (attributes : List Attribute) → bytes_eq new name ≡ false → value_at (with_value new value attributes) name ≡ value_at attributes name
value-with_other new name None attributes other = refl
value-with_other new name (Some value) attributes other = value-placed_other (record { name = new; value = value }) name attributes other

pub value-with : (name : List ℕ) (value : Option Value) (attributes : List Attribute) → value_at attributes name ≡ None → value_at (with_value name value attributes) name ≡ value
value-with name None attributes none = none
value-with name (Some value) attributes none = value-placed (record { name = name; value = value }) attributes

not_both : (name gone : List ℕ) → bytes_eq name gone ≡ false → (a : Attribute) → is_named name a ≡ true → is_other gone a ≡ true
not_both name gone apart a h =
    let same : a.name ≡ name = (bytes_eq-Decides a.name name).0 h in ap (λ (t : List ℕ). not (bytes_eq t gone)) same ∙ ap not apart

-- an attribute that is taken out changes no other value
pub value-without_other : (gone name : List ℕ) (attributes : List Attribute) → bytes_eq name gone ≡ false → value_at (without gone attributes) name ≡ value_at attributes name
value-without_other gone name attributes apart = ap found_value (find-filter name_of (is_named name) (is_other gone) (not_both name gone apart) attributes)

pub value-without : (name : List ℕ) (attributes : List Attribute) → value_at (without name attributes) name ≡ None
value-without name attributes = ap found_value (find-filter_none name_of (is_named name) (is_other name) (λ a h. ap not h) attributes)

abbrev depends_on : List ℕ
depends_on = codes "depends_on"

abbrev networks : List ℕ
networks = codes "networks"

-- the default network, as an attribute
abbrev pub joins_default : Attribute
joins_default = record { name = networks; value = Value.Networks (record { key = default_key; aliases = [] } ∷ []) }

default_by : (says : Bool) (attributes : List Attribute) (name : List ℕ) → bytes_eq networks name ≡ false
    → value_at (if says then attributes else placed name_of joins_default attributes) name ≡ value_at attributes name
default_by true attributes name other = refl
default_by false attributes name other = value-placed_other joins_default name attributes other

-- the default network changes no value of another name
pub value-with_default : (attributes : List Attribute) (name : List ℕ) → bytes_eq networks name ≡ false → value_at (with_default attributes) name ≡ value_at attributes name
value-with_default attributes name other = default_by (says_networks attributes) attributes name other

-- attributes with the default network say something of networks
pub says_default : (attributes : List Attribute) → says_networks (placed name_of joins_default attributes) ≡ true
says_default attributes =
    ap (λ (value : Option Value). is_some (option_and_then as_networks value) || is_some (text_at (placed name_of joins_default attributes) (codes "network_mode"))) (value-placed joins_default attributes)

-- the dependencies on services that are there
abbrev are_there : List (List ℕ) → Service → List Dependency
are_there keys service = filter (λ need. is_in keys need.key) (dependencies_of service)

module _ (keys : List (List ℕ)) (service : Service) where
  abbrev kept : List Attribute
  kept = without depends_on service.attributes

  -- without what isn't there it has its other values
  pub missing_value : (name : List ℕ) → bytes_eq depends_on name ≡ false → bytes_eq name depends_on ≡ false → value_at (without_missing keys service) name ≡ value_at service.attributes name
  missing_value name no_need apart =
      value-with_other depends_on name (needs_there keys service) kept no_need ∙ value-without_other depends_on name service.attributes apart

  -- a settled service has the values that it had, but of its dependencies and networks
  pub settled_value : (name : List ℕ) → bytes_eq networks name ≡ false → bytes_eq depends_on name ≡ false → bytes_eq name depends_on ≡ false
      → value_at (settled keys service).attributes name ≡ value_at service.attributes name
  settled_value name no_network no_need apart =
      value-with_default (without_missing keys service) name no_network ∙ missing_value name no_need apart

  needs_value : value_at (settled keys service).attributes depends_on ≡ needs_there keys service
  needs_value =
      value-with_default (without_missing keys service) depends_on refl
      ∙ value-with depends_on (needs_there keys service) kept (value-without depends_on service.attributes)

  -- it needs what it needed and what is there
  pub settled_needs : dependencies_of (settled keys service) ≡ are_there keys service
  settled_needs = ap (λ (value : Option Value). unwrap_or (option_and_then as_dependencies value) []) needs_value ∙ at (are_there keys service)
    where
      at : (needs : List Dependency) → unwrap_or (option_and_then as_dependencies (option_map Value.Dependencies (if_any needs))) [] ≡ needs
      at [] = refl
      at (need ∷ needs) = refl

  same_needs : needs_there keys (settled keys service) ≡ needs_there keys service
  same_needs =
      ap (λ (needs : List Dependency). option_map Value.Dependencies (if_any (filter (λ need. is_in keys need.key) needs))) settled_needs
      ∙ ap (λ (needs : List Dependency). option_map Value.Dependencies (if_any needs)) (filter-filter (λ need. is_in keys need.key) (dependencies_of service))

  with_again : (value : Option Value) → without depends_on (with_value depends_on value kept) ≡ kept
  with_again None = filter-filter (is_other depends_on) service.attributes
  with_again (Some value) =
      filter-placed_out name_of (is_other depends_on) (record { name = depends_on; value = value }) kept refl ∙ filter-filter (is_other depends_on) service.attributes

  module _ (rise : Rises name_of service.attributes) where
    rise_with : (value : Option Value) → Rises name_of (with_value depends_on value kept)
    rise_with None = rises-filter name_of (is_other depends_on) service.attributes rise
    rise_with (Some value) =
        rises-placed name_of (record { name = depends_on; value = value }) kept (rises-filter name_of (is_other depends_on) service.attributes rise)

    placed_after : (value : Option Value) → with_value depends_on value (placed name_of joins_default kept) ≡ placed name_of joins_default (with_value depends_on value kept)
    placed_after None = refl
    placed_after (Some value) = placed-placed name_of (record { name = depends_on; value = value }) joins_default kept refl

    again : (says : Bool) (value : Option Value)
        → with_value depends_on value (without depends_on (if says then with_value depends_on value kept else placed name_of joins_default (with_value depends_on value kept)))
        ≡ (if says then with_value depends_on value kept else placed name_of joins_default (with_value depends_on value kept))
    again true value = ap (with_value depends_on value) (with_again value)
    again false value =
        ap (with_value depends_on value)
        (filter-placed name_of (is_other depends_on) joins_default (with_value depends_on value kept) refl (rise_with value) ∙ ap (placed name_of joins_default) (with_again value))
        ∙ placed_after value

    default_again : (attributes : List Attribute) → with_default (with_default attributes) ≡ with_default attributes
    default_again attributes = at (says_networks attributes) refl
      where
        at : (says : Bool) → says_networks attributes ≡ says
            → with_default (if says then attributes else placed name_of joins_default attributes) ≡ (if says then attributes else placed name_of joins_default attributes)
        at true says = ap (λ (b : Bool). if b then attributes else placed name_of joins_default attributes) says
        at false says = ap (λ (b : Bool). if b then placed name_of joins_default attributes else placed name_of joins_default (placed name_of joins_default attributes)) (says_default attributes)

    same_attributes : with_default (without_missing keys (settled keys service)) ≡ with_default (without_missing keys service)
    same_attributes =
        ap (λ (value : Option Value). with_default (with_value depends_on value (without depends_on (settled keys service).attributes))) same_needs
        ∙ ap with_default (again (says_networks (without_missing keys service)) (needs_there keys service))
        ∙ default_again (without_missing keys service)

    pub settled_twice : settled keys (settled keys service) ≡ settled keys service
    settled_twice = ap (λ (attributes : List Attribute). let s : Service = record { key = service.key; attributes = attributes } in s) same_attributes
