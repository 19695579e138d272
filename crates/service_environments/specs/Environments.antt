-- The environment of a service: what its env files give, and over it what it says itself (the Compose Specification,
-- `env_file`, `environment`).
use Rattle.std.specs.Prelude.{ℕ, List, [], ◌∷◌, ◌||◌, if◌then◌else◌, Bool, true, false, fold, is_some, map, codes}
use Rattle.std.specs.Option.{option_map_or}
use Rattle.file_paths.specs.Paths.{Variables}
use Rattle.file_paths.specs.Resolving.{Entries}
use Rattle.file_paths.specs.Shapes.{entries_at}
use Rattle.loaded_files.specs.EnvFiles.{with_file, with_file_if}
use Rattle.loaded_files.specs.Fields.{names_of}
use Rattle.loaded_files.specs.Reads.{◌>>=◌, Load, give}
use Rattle.service_environments.specs.EnvItems.{items_of}
use Rattle.service_environments.specs.declared.env_item.EnvItem.{EnvItem}
use Rattle.tree_base.specs.Entries.{value_at, with_entry, without_entry}
use Rattle.tree_base.specs.declared.Tree.{Tree, Map, Scalar, out-Tree}
use Rattle.tree_base.specs.declared.Tree.TheOpen.{Tree-F}

-- an env file with those before it, by whether it has to be there
abbrev pub file_read : Variables → List ℕ → Bool → Variables → ℕ → Load (Variables × ℕ)
file_read env path true earlier left = with_file env path earlier left
file_read env path false earlier left = with_file_if env path earlier left

-- env files, in order, over the values of earlier ones, and how many files may still be read
abbrev pub files_read : Variables → List EnvItem → Variables → ℕ → Load (Variables × ℕ)
files_read env [] values left = give (values, left)
files_read env (item ∷ items) values left =
    file_read env item.path item.required values left >>= λ got. files_read env items got.0 got.1

-- an entry of `environment` over earlier values: one without a value takes the variable's, and goes away where there is
-- none
abbrev pub with_setting : Variables → Variables → List ℕ → Tree-F Tree → Variables
with_setting env values name (Tree-F.Scalar text) = with_entry values name text
with_setting env values name tree =
    option_map_or (with_entry values name) (value_at env name) (without_entry values name)

-- the entries of `environment` over the values of env files
abbrev pub settings_over : Variables → Entries → Variables → Variables
settings_over env entries values =
    fold (λ values entry. with_setting env values entry.0 (out-Tree entry.1)) values entries

-- a service that says something of its environment
abbrev pub has_settings : Entries → Bool
has_settings service =
    is_some (value_at service (codes "env_file"))
    || is_some (value_at service (codes "environment"))

-- values as a mapping of a file
abbrev pub settings : Variables → Tree
settings values = Map (map (λ entry. (entry.0, Scalar entry.1)) values)

-- a service with these values as its environment, where it says something of it; `environment` keeps its place, or goes
-- last, and `env_file` goes away
abbrev pub with_values : Entries → Variables → Entries
with_values service values =
    if has_settings service
    then with_entry (without_entry service (codes "env_file")) (codes "environment") (settings values)
    else service

-- a service with its environment, and how many files may still be read
abbrev pub with_environment : Variables → Entries → ℕ → Load (Entries × ℕ)
with_environment env service left =
    files_read env (items_of service) [] left >>= λ got.
    give (with_values service (settings_over env (entries_at (codes "environment") service) got.0), got.1)

-- the services of these names with their environments, put in their places
abbrev pub all_with_environments :
    Variables → List (List ℕ) → Entries → ℕ → Load (Entries × ℕ)
all_with_environments env [] services left = give (services, left)
all_with_environments env (name ∷ names) services left =
    with_environment env (entries_at name services) left >>= λ got.
    all_with_environments env names (with_entry services name (Map got.0)) got.1

-- services with their environments, in byte order of their names
abbrev pub with_environments : Variables → Entries → ℕ → Load (Entries × ℕ)
with_environments env services left =
    all_with_environments env (names_of services) services left
