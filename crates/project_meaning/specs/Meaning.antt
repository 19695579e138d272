-- The project that a merged tree means under a name, or why it means none: the first refusal of the order in which it is asked (the
-- Compose Specification's top-level elements).
use Rattle.std.specs.Prelude.{ℕ, ◌++◌, ◌||◌, ◌&&◌, Bool, if◌then◌else◌, List, [], ◌∷◌, Option, Some, None, Result, Ok, Err, codes, is_some, length, min, nat_lt, unwrap_or}
use Rattle.std.specs.List.{list_all}
use Rattle.std.specs.Str.{bytes_eq}
use Rattle.tree_base.specs.Limits.{greatest_place, most_services}
use Rattle.tree_base.specs.Answers.{◌>>=◌}
use Rattle.tree_base.specs.ByteOrder.{placed}
use Rattle.tree_base.specs.Entries.{value_at}
use Rattle.tree_base.specs.declared.Step.{Step}
use Rattle.tree_base.specs.declared.Step.TheVariants.{Key}
use Rattle.tree_base.specs.declared.Tree.{Tree, out-Tree}
use Rattle.tree_base.specs.declared.Tree.TheOpen.{Tree-F}
use Rattle.short_forms.specs.Mounts.{is_name_byte}
use Rattle.attribute_types.specs.Answers.{refused, under}
use Rattle.attribute_types.specs.Lookups.{bool_at, text_at}
use Rattle.attribute_types.specs.Tables.{file_lines, network_lines, volume_lines}
use Rattle.attribute_types.specs.Values as values
use Rattle.attribute_types.specs.declared.attribute.Attribute.{Attribute}
use Rattle.attribute_types.specs.declared.attribute.Value.{Value}
use Rattle.attribute_types.specs.declared.refusal.AttributeRefusal.{AttributeRefusal}
use Rattle.attribute_types.specs.declared.refusal.AttributeRefusal.TheVariants as attributes
use Rattle.attribute_types.specs.declared.refusal.Fault.{Fault}
use Rattle.attribute_values.specs.Fields.{fields_of}
use Rattle.attribute_scalars.specs.Scalars.{is_nonempty}
use Rattle.attribute_scalars.specs.Walks.{Entries, Read, each_entry, in_byte_order, is_extension, is_in, own_entries}
use Rattle.attribute_rows.specs.Attributes.{attributes_of}
use Rattle.attribute_rows.specs.Rows.{entries_in}
use Rattle.typed_project.specs.declared.network.Network.{Network}
use Rattle.typed_project.specs.declared.project.FileItem.{FileItem}
use Rattle.typed_project.specs.declared.project.Project.{Project}
use Rattle.typed_project.specs.declared.service.Service.{Service}
use Rattle.typed_project.specs.declared.volume.Volume.{Volume}
use Rattle.project_meaning.specs.Completing.{completed}
use Rattle.loading_words.specs.declared.refusal.ProjectRefusal.{ProjectRefusal}
use Rattle.loading_words.specs.declared.refusal.TreeRefusal.{TreeRefusal}

-- the top-level elements that are mappings of what a project declares
abbrev pub section_names : List (List ℕ)
section_names =
    codes "configs" ∷ codes "networks" ∷ codes "secrets" ∷ codes "services" ∷ codes "volumes" ∷ []

-- null, or a mapping
abbrev pub section_form : Tree-F Tree → Read (List Attribute)
section_form Tree-F.Null = Ok []
section_form (Tree-F.Map entries) = Ok []
section_form tree = refused Fault.WrongKind

-- null, or a text
abbrev pub name_form : Tree-F Tree → Read (List Attribute)
name_form Tree-F.Null = Ok []
name_form (Tree-F.Scalar text) = Ok []
name_form tree = refused Fault.WrongKind

-- the elements of which nothing is asked any more, and those that extend a file
abbrev pub is_passed_over : List ℕ → Bool
is_passed_over key = is_extension key || is_in (codes "include" ∷ codes "version" ∷ []) key

-- what is wrong with a top-level element by itself
abbrev pub element_form : List ℕ → Tree-F Tree → Read (List Attribute)
element_form key tree =
    if is_passed_over key then Ok []
    else (if is_in section_names key then section_form tree
    else (if bytes_eq key (codes "name") then name_form tree else refused Fault.UnknownAttribute))

-- the top-level elements, each of which has its form
abbrev pub elements_in : Tree-F Tree → Read Entries
elements_in Tree-F.Null = Ok []
elements_in (Tree-F.Map entries) =
    each_entry (λ key tree. element_form key (out-Tree tree)) (in_byte_order entries) >>= λ none. Ok entries
elements_in tree = refused Fault.WrongKind

-- the entries of a mapping, none of null
abbrev pub entries_or_none : Tree-F Tree → Read Entries
entries_or_none Tree-F.Null = Ok []
entries_or_none tree = entries_in tree

-- the entries of a mapping that may not be there; its form was asked before
abbrev pub entries_under : Option Tree → Entries
entries_under None = []
entries_under (Some tree) = mapped (out-Tree tree)
  where
    mapped : Tree-F Tree → Entries
    mapped (Tree-F.Map entries) = entries
    mapped other = []

-- what a section declares
abbrev pub section : Entries → List ℕ → Entries
section elements name = entries_under (value_at elements name)

-- a key of what is declared: letters, digits, `.`, `_` and `-`
abbrev pub is_key : List ℕ → Bool
is_key key = is_nonempty key && list_all is_name_byte key

-- what is declared under a key, which is asked first
abbrev pub declared_as : {X : Type 0} → (List ℕ → Tree-F Tree → Read X) → List ℕ → Tree → Read (List X)
declared_as read key tree =
    if is_key key then (read key (out-Tree tree) >>= λ item. Ok (item ∷ []))
    else refused Fault.BadValue

-- all that a section declares, in byte order of the keys
abbrev pub all_declared : {X : Type 0} → (List ℕ → Tree-F Tree → Read X) → Entries → List ℕ → Read (List X)
all_declared read elements name =
    under (Key name) (each_entry (declared_as read) (in_byte_order (section elements name)))

-- the name of what stands under a key of a project; what is external has its own
abbrev pub name_for : List ℕ → List ℕ → List Attribute → List ℕ
name_for project key attributes =
    if is_some (bool_at attributes (codes "external")) then key else project ++ codes "_" ++ key

-- attributes with a name, in byte order
abbrev pub with_name : List ℕ → List ℕ → List Attribute → List Attribute
with_name project key attributes =
    if is_some (values.value_at attributes (codes "name")) then attributes
    else placed {X = Attribute} (λ attribute. attribute.name)
    (record { name = codes "name"; value = Value.Text (name_for project key attributes) }) attributes

-- a network (Compose Specification, networks)
abbrev pub network_of : List ℕ → List ℕ → Tree-F Tree → Read Network
network_of project key tree =
    entries_or_none tree >>= λ entries.
    fields_of network_lines [] (own_entries entries) >>= λ attributes.
    Ok (record { key = key; attributes = with_name project key attributes })

-- a volume (Compose Specification, volumes)
abbrev pub volume_of : List ℕ → List ℕ → Tree-F Tree → Read Volume
volume_of project key tree =
    entries_or_none tree >>= λ entries.
    fields_of volume_lines [] (own_entries entries) >>= λ attributes.
    Ok (record { key = key; attributes = with_name project key attributes })

-- a secret or a config, which is a file (Compose Specification, secrets, configs)
abbrev pub file_of : List ℕ → Tree-F Tree → Read FileItem
file_of key tree =
    entries_or_none tree >>= λ entries.
    fields_of file_lines (codes "file" ∷ []) (own_entries entries) >>= λ attributes.
    Ok (record { key = key; file = unwrap_or (text_at attributes (codes "file")) [] })

-- a service (Compose Specification, services)
abbrev pub service_of : List ℕ → Tree-F Tree → Read Service
service_of key tree =
    entries_in tree >>= attributes_of >>= λ attributes. Ok (record { key = key; attributes = attributes })

-- what is wrong at a path
abbrev pub refusal_at : Fault → List Step → ProjectRefusal
refusal_at Fault.UnknownAttribute path = ProjectRefusal.UnknownAttribute path
refusal_at Fault.WrongKind path = ProjectRefusal.WrongKind path
refusal_at Fault.BadValue path = ProjectRefusal.BadValue path

-- why a tree gives no project whose attribute is refused
abbrev pub refusal_of : AttributeRefusal → TreeRefusal
refusal_of (attributes.At fault path) = TreeRefusal.Project (refusal_at fault path)
refusal_of attributes.Memory = TreeRefusal.Memory

-- what is read, as a part of a project
abbrev pub of_attributes : {X : Type 0} → Read X → Result X TreeRefusal
of_attributes (Ok x) = Ok x
of_attributes (Err refusal) = Err (refusal_of refusal)

-- a number that counts in 32 bits, or the greatest of these
abbrev pub counted : ℕ → ℕ
counted n = min n greatest_place

-- no more services than may be
abbrev pub few_services : Entries → Result Entries TreeRefusal
few_services entries =
    if nat_lt most_services (length entries)
    then Err (TreeRefusal.Project (ProjectRefusal.TooManyServices (counted (length entries))))
    else Ok entries

-- what a tree declares under a project's name, each part by itself: first the elements, then networks, volumes, secrets, configs, the
-- number of services, and services
abbrev pub declarations : List ℕ → Tree-F Tree → Result Project TreeRefusal
declarations name tree =
    of_attributes (elements_in tree) >>= λ elements.
    of_attributes (all_declared (network_of name) elements (codes "networks")) >>= λ networks.
    of_attributes (all_declared (volume_of name) elements (codes "volumes")) >>= λ volumes.
    of_attributes (all_declared file_of elements (codes "secrets")) >>= λ secrets.
    of_attributes (all_declared file_of elements (codes "configs")) >>= λ configs.
    few_services (section elements (codes "services")) >>= λ few.
    of_attributes (all_declared service_of elements (codes "services")) >>= λ services.
    Ok (record {
      name = name;
      services = services;
      networks = networks;
      volumes = volumes;
      secrets = secrets;
      configs = configs;
    })

-- the project of a tree under a name: what it declares, where each name that a service uses is there and no services need one
-- another in a circle, with what goes without saying, and without what nobody uses
abbrev pub project_of : List ℕ → Tree → Result Project TreeRefusal
project_of name tree = declarations name (out-Tree tree) >>= completed
