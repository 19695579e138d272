-- The services of a model: over all that they extend, and then with their environments (the Compose Specification,
-- "Extend", `env_file`, `environment`).
use Rattle.std.specs.Prelude.{ℕ, List, Option, Some, None, Result, codes}
use Rattle.std.specs.Option.{option_and_then}
use Rattle.file_paths.specs.Paths.{Variables}
use Rattle.file_paths.specs.Resolving.{Entries}
use Rattle.include_extends.specs.declared.model.Model.{Model}
use Rattle.loaded_files.specs.Reads.{◌>>=◌, Load, after, give}
use Rattle.loaded_files.specs.Refusing.{of_merge}
use Rattle.loaded_files.specs.declared.refusal.LoadRefusal.{LoadRefusal}
use Rattle.merge_tables.specs.Answers.{within}
use Rattle.service_bases.specs.Extending.{services_extended}
use Rattle.service_environments.specs.Environments.{with_environments}
use Rattle.tree_base.specs.Entries.{value_at, with_entry}
use Rattle.tree_base.specs.declared.Tree.{Tree, Map, out-Tree}
use Rattle.tree_base.specs.declared.Tree.TheOpen.{Tree-F}

-- a tree within the limits of merged trees, else the refusal of a file
abbrev pub bounded : List ℕ → Tree → Result Tree LoadRefusal
bounded file tree = of_merge file (within tree)

-- services over all that they extend, and then with their environments
abbrev pub services_loaded : Variables → List ℕ → Entries → ℕ → Load (Entries × ℕ)
services_loaded env file services left =
    services_extended env file services left >>= λ got. with_environments env got.0 got.1

-- the entries of a mapping
abbrev pub mapping_of : Tree-F Tree → Option Entries
mapping_of (Tree-F.Map entries) = Some entries
mapping_of tree = None

-- what stands at `services`, where it is a mapping
abbrev pub services_of : Entries → Option Entries
services_of top = option_and_then (λ tree. mapping_of (out-Tree tree)) (value_at top (codes "services"))

-- elements with their services loaded, where they have any
abbrev pub services_under :
    Variables → List ℕ → Entries → ℕ → Option Entries → Load (Entries × ℕ)
services_under env file top left None = give (top, left)
services_under env file top left (Some services) =
    services_loaded env file services left >>= λ got.
    give (with_entry top (codes "services") (Map got.0), got.1)

-- elements with their services loaded, which are within the limits then
abbrev pub elements_loaded : Variables → List ℕ → Entries → ℕ → Load (Tree × ℕ)
elements_loaded env file top left =
    services_under env file top left (services_of top) >>= λ got.
    after (bounded file (Map got.0)) (λ tree. give (tree, got.1))

-- a tree with its services loaded; null stays
abbrev pub tree_loaded : Variables → List ℕ → Tree → ℕ → Tree-F Tree → Load (Tree × ℕ)
tree_loaded env file tree left (Tree-F.Map top) = elements_loaded env file top left
tree_loaded env file tree left other = give (tree, left)

-- a model with its services loaded, where this is its first file
abbrev pub with_services : List ℕ → Model → Load Model
with_services file own =
    tree_loaded own.env file own.tree own.left (out-Tree own.tree) >>= λ got.
    give (record { tree = got.0; env = own.env; left = got.1 })
