-- Which services of a model are active (Compose Specification: profiles, and `depends_on` with `required`).
use Rattle.std.specs.Prelude.{ℕ, ◌==◌, Bool, true, false, not, ◌&&◌, ◌||◌, List, [], ◌∷◌, ◌++◌, Option, Some, None, Result, Ok, Err, codes, filter, is_some, length, map}
use Rattle.std.specs.List.{list_any, slice_split}
use Rattle.std.specs.Option.{option_and_then, option_map, option_map_or}
use Rattle.std.specs.Str.{bytes_eq, str_to_ascii_lowercase}
use Rattle.active_services.specs.declared.refusal.ActiveRefusal.{ActiveRefusal}
use Rattle.tree_base.specs.ByteOrder.{least_by}
use Rattle.tree_base.specs.Entries.{value_at, with_entry}
use Rattle.tree_base.specs.declared.Tree.{Tree, out-Tree}
use Rattle.tree_base.specs.declared.Tree.TheOpen.{Tree-F}
use Rattle.tree_base.specs.declared.Tree.TheVariants as trees

-- the entries of a mapping
abbrev pub Entries : Type 0
Entries = List (List ℕ × Tree)

-- names of profiles
abbrev pub Profiles : Type 0
Profiles = List (List ℕ)

-- the names in the value of a variable: it is cut at its commas, and an empty one is one empty name
abbrev pub names_in : Option (List ℕ) → Profiles
names_in None = []
names_in (Some value) = slice_split (λ b. b == 44) value

-- the profiles of a call: those of `--profile`, and those of the variable COMPOSE_PROFILES
abbrev pub profiles_given : Profiles → List (List ℕ × List ℕ) → Profiles
profiles_given options env = options ++ names_in (value_at env (codes "COMPOSE_PROFILES"))

-- a profile is among those of the call
abbrev pub is_given : Profiles → List ℕ → Bool
is_given profiles name = list_any (bytes_eq name) profiles

-- what stands at an attribute, of a mapping alone
abbrev pub attribute_at : List ℕ → Tree-F Tree → Option Tree
attribute_at name (Tree-F.Map attributes) = value_at attributes name
attribute_at name tree = None

-- an item of `profiles` is the name of one that is given
abbrev pub names_given : Profiles → Tree-F Tree → Bool
names_given profiles (Tree-F.Scalar name) = is_given profiles name
names_given profiles tree = false

-- what stands at `profiles` enables its service: it names none, or one that is given
abbrev pub enables : Profiles → Tree-F Tree → Bool
enables profiles (Tree-F.Seq items) =
    (length items == 0) || list_any (λ item. names_given profiles (out-Tree item)) items
enables profiles tree = true

-- a service without profiles is enabled, another one where one of its profiles is given, and each where `*` is
abbrev pub is_enabled : Profiles → Tree → Bool
is_enabled profiles service =
    is_given profiles (codes "*")
    || option_map_or (λ names. enables profiles (out-Tree names))
    (attribute_at (codes "profiles") (out-Tree service)) true

-- the words that say no, in any case
abbrev pub words_for_no : List (List ℕ)
words_for_no = codes "false" ∷ codes "no" ∷ codes "off" ∷ codes "n" ∷ []

-- a word that says no
abbrev pub says_no : Tree-F Tree → Bool
says_no (Tree-F.Scalar word) = list_any (bytes_eq (str_to_ascii_lowercase word)) words_for_no
says_no tree = false

-- a dependency is optional: its `required` says no, and whatever else stands there doesn't
abbrev pub is_optional : Tree → Bool
is_optional need =
    option_map_or (λ word. says_no (out-Tree word))
    (attribute_at (codes "required") (out-Tree need)) false

-- the entries of a mapping, none of another tree
abbrev pub entries_in : Tree-F Tree → Entries
entries_in (Tree-F.Map entries) = entries
entries_in tree = []

-- the dependencies of a service, in long form: by the name of the service that each is on
abbrev pub needs_of : Tree → Entries
needs_of service =
    option_map_or (λ needs. entries_in (out-Tree needs))
    (attribute_at (codes "depends_on") (out-Tree service)) []

-- by which services are enabled, and by all services of the model
module _ (enabled : Tree → Bool) (services : Entries) where
  -- a service of this name is there and isn't enabled
  abbrev pub is_disabled : List ℕ → Bool
  is_disabled name =
      option_map_or (λ service. not (enabled service)) (value_at services name) false

  -- a dependency can't be met: it is required, and its service is there and isn't enabled
  abbrev pub is_unmet : List ℕ × Tree → Bool
  is_unmet need = is_disabled need.0 && not (is_optional need.1)

  -- the least dependency of a service that can't be met
  abbrev pub unmet_need : Tree → Option (List ℕ × Tree)
  unmet_need service = least_by (λ need. need.0) (filter is_unmet (needs_of service))

  -- a service is refused: it is enabled, and one of its dependencies can't be met
  abbrev pub is_refused : Tree → Bool
  is_refused service = enabled service && is_some (unmet_need service)

  -- the refusal of the least service that is refused, with its least dependency that can't be met
  abbrev pub first_refusal : Option ActiveRefusal
  first_refusal =
      option_and_then
      (λ service. option_map (λ need. ActiveRefusal.DependencyDisabled service.0 need.0)
      (unmet_need service.1))
      (least_by (λ service. service.0) (filter (λ service. is_refused service.1) services))

  -- the dependencies that a service keeps: those on services that are enabled or aren't there
  abbrev pub needs_kept : Entries → Entries
  needs_kept needs = filter (λ need. not (is_disabled need.0)) needs

  -- the attributes of a service with those dependencies, by what stands at `depends_on`
  abbrev pub attributes_kept : Entries → Option (Tree-F Tree) → Entries
  attributes_kept attributes (Some (Tree-F.Map needs)) =
      with_entry attributes (codes "depends_on") (trees.Map (needs_kept needs))
  attributes_kept attributes found = attributes

  -- a service with the dependencies that it keeps; everything else of it stays
  abbrev pub service_kept : Tree → Tree-F Tree → Tree
  service_kept service (Tree-F.Map attributes) =
      trees.Map (attributes_kept attributes
      (option_map out-Tree (value_at attributes (codes "depends_on"))))
  service_kept service tree = service

  -- the enabled services, in the model's order, each with the dependencies that it keeps
  abbrev pub services_kept : Entries
  services_kept =
      map (λ service. (service.0, service_kept service.1 (out-Tree service.1)))
      (filter (λ service. enabled service.1) services)

-- what is given, unless something is refused
abbrev pub unless_refused : {X : Type 0} → Option ActiveRefusal → X → Result X ActiveRefusal
unless_refused None given = Ok given
unless_refused (Some refusal) given = Err refusal

-- the tree of a model with these services in place of its own
abbrev pub with_services : Entries → Entries → Tree
with_services model services = trees.Map (with_entry model (codes "services") (trees.Map services))

-- a model's tree with its enabled services alone, by what stands at `services`
abbrev pub active_by :
    (Tree → Bool) → Tree → Entries → Option (Tree-F Tree) → Result Tree ActiveRefusal
active_by enabled tree model (Some (Tree-F.Map services)) =
    unless_refused (first_refusal enabled services)
    (with_services model (services_kept enabled services))
active_by enabled tree model found = Ok tree

-- the same, by the tree's root
abbrev pub active_in : (Tree → Bool) → Tree → Tree-F Tree → Result Tree ActiveRefusal
active_in enabled tree (Tree-F.Map model) =
    active_by enabled tree model (option_map out-Tree (value_at model (codes "services")))
active_in enabled tree root = Ok tree

-- a model's tree with its enabled services alone, without their optional dependencies on others; or the refusal of
-- the least enabled service that requires one that isn't enabled, with the least such dependency
abbrev pub active : Profiles → Tree → Result Tree ActiveRefusal
active profiles tree = active_in (is_enabled profiles) tree (out-Tree tree)
