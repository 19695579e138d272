-- What a loaded tree gives: a project, or the first refusal.
use Rattle.std.specs.Prelude.{ℕ, if◌then◌else◌, List, [], ◌∷◌, Option, Some, None, Result, Ok, Err, codes}
use Rattle.std.specs.Option.{option_map, option_or}
use Rattle.active_services.specs.Profiles.{Profiles, active}
use Rattle.active_services.specs.declared.ActiveRefusal.{ActiveRefusal}
use Rattle.loaded_files.specs.declared.Loaded.{Loaded}
use Rattle.tree_base.specs.Answers.{◌>>=◌}
use Rattle.tree_base.specs.Entries.{value_at}
use Rattle.tree_base.specs.declared.Step.TheVariants.{Key}
use Rattle.tree_base.specs.declared.Tree.{Tree, out-Tree}
use Rattle.tree_base.specs.declared.Tree.TheOpen.{Tree-F}
use Rattle.normal_form.specs.ProjectNames.{base_name, is_name, name_from}
use Rattle.loading_words.specs.declared.TreeRefusal.{TreeRefusal}
use Rattle.loading_words.specs.declared.ProjectRefusal.{ProjectRefusal}
use Rattle.project_meaning.specs.Meaning as meaning
use Rattle.typed_project.specs.declared.project.Project.{Project}

-- what a directory gives as a name, unless nothing is left of it
abbrev pub named : List ℕ → Result (List ℕ) TreeRefusal
named [] = Err (TreeRefusal.Name (ProjectRefusal.BadName []))
named (c ∷ cs) = Ok (c ∷ cs)

-- a name as it is given, which has to be one
abbrev pub checked : List ℕ → Result (List ℕ) TreeRefusal
checked name =
    if is_name name then Ok name else Err (TreeRefusal.Name (ProjectRefusal.BadName name))

-- the name has another form: it is neither null nor a scalar
abbrev pub wrong_kind : {X : Type 0} → Result X TreeRefusal
wrong_kind = Err (TreeRefusal.Project (ProjectRefusal.WrongKind (Key (codes "name") ∷ [])))

-- the name of a project, by what stands at `name` in a directory with this base name (the top-level element `name`)
abbrev pub name_by : List ℕ → Option (Tree-F Tree) → Result (List ℕ) TreeRefusal
name_by base (Some (Tree-F.Scalar name)) = checked name
name_by base (Some (Tree-F.Map entries)) = wrong_kind
name_by base (Some (Tree-F.Seq items)) = wrong_kind
name_by base found = named (name_from base)

-- the name that a tree has, or else its directory
abbrev pub name_in : List ℕ → Tree-F Tree → Result (List ℕ) TreeRefusal
name_in base (Tree-F.Map entries) =
    name_by base (option_map out-Tree (value_at entries (codes "name")))
name_in base tree = named (name_from base)

-- a text that isn't empty
abbrev pub filled : Option (List ℕ) → Option (List ℕ)
filled (Some []) = None
filled found = found

-- the name that a call gives: that of `-p`, or else of the variable COMPOSE_PROJECT_NAME, where this isn't empty
abbrev pub name_given : Option (List ℕ) → List (List ℕ × List ℕ) → Option (List ℕ)
name_given option env = option_or option (filled (value_at env (codes "COMPOSE_PROJECT_NAME")))

-- the name that a call gives, which has to be one, or else that of its files
abbrev pub name_or :
    Option (List ℕ) → Result (List ℕ) TreeRefusal → Result (List ℕ) TreeRefusal
name_or (Some name) of_files = checked name
name_or None of_files = of_files

-- the name of the project of what was loaded: the one that the call gives, by `-p` or the variable, or the tree, or else
-- the directory
abbrev pub project_name : Option (List ℕ) → Loaded → Result (List ℕ) TreeRefusal
project_name option loaded =
    name_or (name_given option loaded.env)
    (name_in (base_name loaded.directory) (out-Tree loaded.tree))

-- a tree with its active services, or what gives no project where it has none
abbrev pub active_or_refused : Result Tree ActiveRefusal → Result Tree TreeRefusal
active_or_refused (Ok tree) = Ok tree
active_or_refused (Err ActiveRefusal.Memory) = Err TreeRefusal.Memory
active_or_refused (Err refusal) = Err (TreeRefusal.Active refusal)

-- the project of the active services of a tree, under a name
abbrev pub project_among : Profiles → Tree → List ℕ → Result Project TreeRefusal
project_among profiles tree name =
    active_or_refused (active profiles tree) >>= meaning.project_of name

-- the project of what was loaded, by the name of `-p` and by profiles: first its name, then its active services, then
-- what these declare
abbrev pub project_of : Option (List ℕ) → Profiles → Loaded → Result Project TreeRefusal
project_of option profiles loaded =
    project_name option loaded >>= project_among profiles loaded.tree
