-- What is known of trees that are accepted.
use Rattle.std.specs.Prelude.{◌≡◌, ℕ, true, List, [], ◌∷◌, Ok, All, None, codes}
use Rattle.file_paths.specs.Shapes.{entries_at, entries_in, shape_fault}
use Rattle.tree_base.specs.Entries.{value_at}
use Rattle.tree_base.specs.declared.Tree.{Tree, Map, out-Tree}
use Rattle.attribute_paths.specs.Patterns.{below_key}
use Rattle.attribute_rows.specs.Attributes.{attributes_of}
use Rattle.attribute_scalars.specs.Walks.{Entries, is_in}
use Rattle.attribute_types.specs.declared.attribute.Attribute.{Attribute}
use Rattle.merge_tables.specs.Answers.{within}
use Rattle.merge_rules.specs.Laws.{own_keys}
use Rattle.long_forms.specs.LongForms.{lengthened, long_forms}
use Rattle.merge_tables.specs.Spots.{service_forms}
use Rattle.project_meaning.specs.Meaning.{project_of}
use Rattle.typed_project.specs.declared.project.Project.{Project}

-- the attributes of a service of which little is asked: what it is built from, and its env files
abbrev pub little_asked : List (List ℕ)
little_asked = codes "build" ∷ codes "env_file" ∷ []

-- an entry of which little is asked is in its long form
abbrev pub IsLongIfLoose : List ℕ × Tree → Type 0
IsLongIfLoose entry =
    is_in little_asked entry.0 ≡ true → lengthened entry.1 (below_key entry.0 service_forms) ≡ Ok entry.1

-- a service that is accepted is in long forms, where what little is asked of is
abbrev pub AcceptedServicesAreLong : Type 0
AcceptedServicesAreLong =
    (entries : Entries) (attributes : List Attribute) → attributes_of entries ≡ Ok attributes
    → All IsLongIfLoose entries → lengthened (Map entries) service_forms ≡ Ok (Map entries)

-- the entries of a tree's services, each by its name
abbrev pub services_in : Tree → Entries
services_in tree = entries_at (codes "services") (entries_in (out-Tree tree))

-- so is all that little is asked of in a tree's services
abbrev pub AreLongIfLoose : Tree → Type 0
AreLongIfLoose tree = All (λ service. All IsLongIfLoose (entries_in (out-Tree service.1))) (services_in tree)

-- a tree that means a project, with no key twice, is in long forms, where what little is asked of is
abbrev pub AcceptedTreesAreLong : Type 0
AcceptedTreesAreLong =
    (name : List ℕ) (tree : Tree) (project : Project) → project_of name tree ≡ Ok project → own_keys tree ≡ true
    → AreLongIfLoose tree → long_forms tree ≡ within tree

-- a service that extends none, and has no env files
abbrev pub IsWhole : Tree → Type 0
IsWhole service =
    (value_at (entries_in (out-Tree service)) (codes "extends") ≡ None)
    × (value_at (entries_in (out-Tree service)) (codes "env_file") ≡ None)

-- a tree that includes nothing, and whose services are so
abbrev pub AllIsThere : Tree → Type 0
AllIsThere tree =
    (value_at (entries_in (out-Tree tree)) (codes "include") ≡ None) × All (λ service. IsWhole service.1) (services_in tree)

-- a tree that means a project, with no key twice, has the form that loading asks, where all is there
abbrev pub AcceptedTreesAreShaped : Type 0
AcceptedTreesAreShaped =
    (name : List ℕ) (tree : Tree) (project : Project) → project_of name tree ≡ Ok project → own_keys tree ≡ true
    → AllIsThere tree → shape_fault (out-Tree tree) ≡ None
