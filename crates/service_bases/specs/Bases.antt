-- What a service extends, and where its base stands (the Compose Specification, "Extend").
use Rattle.std.specs.Prelude.{◌≡◌, ℕ, List, ◌&&◌, Bool, Option, Some, None, Result, Ok, Err, codes}
use Rattle.std.specs.Option.{option_and_then, option_map}
use Rattle.std.specs.Str.{bytes_eq}
use Rattle.file_paths.specs.Paths.{Variables, directory_of}
use Rattle.file_paths.specs.Resolving.{Entries, resolved_service}
use Rattle.file_paths.specs.Shapes.{entries_at, entries_in}
use Rattle.loaded_files.specs.Fields.{text_at}
use Rattle.loaded_files.specs.Refusing.{of_path}
use Rattle.loaded_files.specs.declared.refusal.LoadRefusal.{LoadRefusal}
use Rattle.loaded_files.specs.declared.refusal.LoadRefusal.TheVariants.{NoSuchBase}
use Rattle.loaded_files.specs.declared.refusal.ServiceAt.{ServiceAt}
use Rattle.service_bases.specs.declared.base.Base.{Base}
use Rattle.service_bases.specs.declared.source.Source.{Source}
use Rattle.tree_base.specs.Answers.{◌>>=◌}
use Rattle.tree_base.specs.Entries.{value_at}
use Rattle.tree_base.specs.declared.Tree.{Tree, Map, out-Tree}
use Rattle.tree_base.specs.declared.Tree.TheOpen.{Tree-F}

-- the service of this name in a file
abbrev pub at_service : List ℕ → List ℕ → ServiceAt
at_service file name = record { file = file; service = name }

-- two services are one: they have one name, in one file
abbrev pub is_at : ServiceAt → ServiceAt → Bool
is_at one other = bytes_eq one.file other.file && bytes_eq one.service other.service

-- the base of this name, in a file where one is named
abbrev pub base_named : Option (List ℕ) → List ℕ → Base
base_named file name = record { file = file; service = name }

-- what `extends` names: a service, and maybe the file in which it stands
abbrev pub extends_in : Tree-F Tree → Option Base
extends_in (Tree-F.Scalar name) = Some (base_named None name)
extends_in (Tree-F.Map fields) =
    option_map (base_named (text_at fields (codes "file"))) (text_at fields (codes "service"))
extends_in tree = None

-- what a service extends, where it extends one
abbrev pub extends_of : Entries → Option Base
extends_of service =
    option_and_then (λ tree. extends_in (out-Tree tree)) (value_at service (codes "extends"))

-- the services of a model, whose paths are taken already, as those of its first file
abbrev pub main_source : List ℕ → Entries → Source
main_source file services = record { file = file; directory = None; services = services }

-- the services of a file that `extends` names, whose paths are to be taken against the file's directory
abbrev pub base_source : List ℕ → Tree → Source
base_source path tree =
    record {
      file = path;
      directory = Some (directory_of path);
      services = entries_at (codes "services") (entries_in (out-Tree tree));
    }

-- the attributes of a service with their paths taken, where they aren't yet
abbrev pub placed_service :
    Variables → Option (List ℕ) → Tree → Result Entries LoadRefusal
placed_service env None service = Ok (entries_in (out-Tree service))
placed_service env (Some directory) service =
    of_path (resolved_service directory env service) >>= λ placed.
    Ok (entries_in (out-Tree placed))

-- a service that was looked for under a name
abbrev pub found_service :
    Variables → Source → List ℕ → Option Tree → Result Entries LoadRefusal
found_service env source name None = Err (NoSuchBase source.file name)
found_service env source name (Some service) = placed_service env source.directory service

-- the service of a source under a name
abbrev pub service_in : Variables → Source → List ℕ → Result Entries LoadRefusal
service_in env source name = found_service env source name (value_at source.services name)

-- a service that extends nothing
abbrev pub Alone : Tree → Type 0
Alone service = (entries : Entries) × (service ≡ Map entries) × (value_at entries (codes "extends") ≡ None)

-- services of which none extends anything
abbrev pub AllAlone : Entries → Type 0
AllAlone services = (name : List ℕ) (service : Tree) → value_at services name ≡ Some service → Alone service
