-- The shape that a model's tree has to have before it is loaded further (Compose Specification: the top-level
-- elements, `include`, `depends_on`, `env_file`, `environment`, `extends`, `profiles`).
use Rattle.std.specs.Prelude.{ℕ, Bool, true, false, ◌||◌, ◌&&◌, if◌then◌else◌, List, [], ◌∷◌, Option, Some, None, filter, is_some, unwrap_or, codes}
use Rattle.std.specs.List.{list_all, list_any}
use Rattle.std.specs.Map.{keys_of, values_of}
use Rattle.std.specs.Option.{option_map, option_map_or, option_or}
use Rattle.std.specs.Str.{bytes_eq, str_to_ascii_lowercase}
use Rattle.file_paths.specs.Resolving.{Entries}
use Rattle.file_paths.specs.declared.form.Form.{Form}
use Rattle.file_paths.specs.declared.form.Form.TheVariants as forms
use Rattle.tree_base.specs.ByteOrder.{least_by}
use Rattle.tree_base.specs.Entries.{value_at}
use Rattle.tree_base.specs.declared.Step.{Step}
use Rattle.tree_base.specs.declared.Step.TheVariants.{Key}
use Rattle.tree_base.specs.declared.Tree.{Tree, out-Tree}
use Rattle.tree_base.specs.declared.Tree.TheOpen.{Tree-F}

-- what is asked of a tree
abbrev pub Test : Type 0
Test = Tree-F Tree → Bool

-- a scalar
abbrev pub is_scalar : Test
is_scalar (Tree-F.Scalar text) = true
is_scalar tree = false

-- null
abbrev pub is_null : Test
is_null Tree-F.Null = true
is_null tree = false

-- a mapping
abbrev pub is_mapping : Test
is_mapping (Tree-F.Map entries) = true
is_mapping tree = false

-- null, or what another test asks
abbrev pub or_null : Test → Test
or_null test tree = is_null tree || test tree

-- a sequence of what passes a test
abbrev pub sequence_of : Test → Test
sequence_of test (Tree-F.Seq items) = list_all (λ item. test (out-Tree item)) items
sequence_of test tree = false

-- a mapping to what passes a test
abbrev pub mapping_of : Test → Test
mapping_of test (Tree-F.Map entries) = list_all (λ value. test (out-Tree value)) (values_of entries)
mapping_of test tree = false

-- what stands at a key passes a test, where something stands there
abbrev pub has_if : List ℕ → Test → Entries → Bool
has_if key test entries = option_map_or (λ tree. test (out-Tree tree)) (value_at entries key) true

-- something stands at a key and passes a test
abbrev pub has : List ℕ → Test → Entries → Bool
has key test entries = option_map_or (λ tree. test (out-Tree tree)) (value_at entries key) false

-- a mapping whose entries are right
abbrev pub record_with : (Entries → Bool) → Test
record_with is_right (Tree-F.Map entries) = is_right entries
record_with is_right tree = false

-- a text, or a sequence of texts
abbrev pub are_texts : Test
are_texts tree = is_scalar tree || sequence_of is_scalar tree

-- the entries of an item of `include`: it has its path or its paths, and maybe a directory and env files
abbrev pub are_of_include : Entries → Bool
are_of_include entries =
    has (codes "path") are_texts entries
    && (has_if (codes "project_directory") (or_null is_scalar) entries
    && has_if (codes "env_file") (or_null are_texts) entries)

-- an item of `include`
abbrev pub is_include : Test
is_include tree = is_scalar tree || record_with are_of_include tree

-- the words that say yes or no, in any case
abbrev pub flag_words : List (List ℕ)
flag_words =
    codes "true" ∷ codes "yes" ∷ codes "on" ∷ codes "y"
    ∷ codes "false" ∷ codes "no" ∷ codes "off" ∷ codes "n" ∷ []

-- a word that says yes or no
abbrev pub is_flag : Test
is_flag (Tree-F.Scalar text) = list_any (bytes_eq (str_to_ascii_lowercase text)) flag_words
is_flag tree = false

-- a key of an env file's entry
abbrev pub is_env_file_key : List ℕ → Bool
is_env_file_key key = bytes_eq key (codes "path") || bytes_eq key (codes "required")

-- the entries of an item of `env_file`: its path, whether it has to be there, and nothing else
abbrev pub are_of_env_file : Entries → Bool
are_of_env_file entries =
    has (codes "path") is_scalar entries
    && (has_if (codes "required") (or_null is_flag) entries
    && list_all is_env_file_key (keys_of entries))

-- an item of `env_file`
abbrev pub is_env_file : Test
is_env_file tree = is_scalar tree || record_with are_of_env_file tree

-- the entries of `extends`: the service, and maybe its file
abbrev pub are_of_extends : Entries → Bool
are_of_extends entries =
    has (codes "service") is_scalar entries
    && has_if (codes "file") (or_null is_scalar) entries

-- what each form asks; null is right wherever a form is asked
abbrev pub fits : Form → Test
fits forms.Text = is_scalar
fits forms.Texts = sequence_of is_scalar
fits forms.Section = is_mapping
fits forms.Includes = sequence_of is_include
fits forms.Needs = mapping_of (or_null is_mapping)
fits forms.EnvFiles = λ tree. is_scalar tree || sequence_of is_env_file tree
fits forms.Settings = mapping_of (or_null is_scalar)
fits forms.Extends = λ tree. is_scalar tree || record_with are_of_extends tree

-- names with the forms that are asked there
abbrev pub FormRules : Type 0
FormRules = List (List ℕ × Form)

-- the elements of a file, in the order in which they are asked
abbrev pub top_forms : FormRules
top_forms =
    (codes "name", forms.Text)
    ∷ (codes "services", forms.Section)
    ∷ (codes "networks", forms.Section)
    ∷ (codes "volumes", forms.Section)
    ∷ (codes "secrets", forms.Section)
    ∷ (codes "configs", forms.Section)
    ∷ (codes "include", forms.Includes) ∷ []

-- the attributes of a service, in the order in which they are asked
abbrev pub service_forms : FormRules
service_forms =
    (codes "depends_on", forms.Needs)
    ∷ (codes "env_file", forms.EnvFiles)
    ∷ (codes "environment", forms.Settings)
    ∷ (codes "extends", forms.Extends)
    ∷ (codes "profiles", forms.Texts) ∷ []

-- the first name at which another form stands
abbrev pub other_form : FormRules → Entries → Option (List ℕ)
other_form [] entries = None
other_form (rule ∷ rules) entries =
    if has_if rule.0 (or_null (fits rule.1)) entries then other_form rules entries else Some rule.0

-- a step in a service that has another form: none where the service itself has
abbrev pub service_fault : Tree-F Tree → Option (List Step)
service_fault (Tree-F.Map entries) =
    option_map (λ key. Key key ∷ []) (other_form service_forms entries)
service_fault tree = Some []

-- what has another form in a service of this name
abbrev pub fault_under : List ℕ → List Step → List Step
fault_under name fault = Key (codes "services") ∷ Key name ∷ fault

-- a service has another form, or an attribute of it
abbrev pub is_faulty : List ℕ × Tree → Bool
is_faulty entry = is_some (service_fault (out-Tree entry.1))

-- the path in such a service
abbrev pub faulty_path : List ℕ × Tree → List Step
faulty_path entry = fault_under entry.0 (unwrap_or (service_fault (out-Tree entry.1)) [])

-- the path in the first service, in byte order, of those that have another form
abbrev pub services_fault : Entries → Option (List Step)
services_fault services =
    option_map faulty_path (least_by (λ entry. entry.0) (filter is_faulty services))

-- the entries of a mapping, none of another tree
abbrev pub entries_in : Tree-F Tree → Entries
entries_in (Tree-F.Map entries) = entries
entries_in tree = []

-- those under a key
abbrev pub entries_at : List ℕ → Entries → Entries
entries_at key entries =
    option_map_or (λ tree. entries_in (out-Tree tree)) (value_at entries key) []

-- the path of the first part of a model's tree that has another form: its elements first, then its services
abbrev pub shape_fault : Tree-F Tree → Option (List Step)
shape_fault Tree-F.Null = None
shape_fault (Tree-F.Map entries) =
    option_or (option_map (λ key. Key key ∷ []) (other_form top_forms entries))
    (services_fault (entries_at (codes "services") entries))
shape_fault tree = Some []
