-- What words, variables and files load: the tree of a model, which has all that its services extend and their
-- environments, and all that it includes (the Compose Specification, "Merge", "Extend", "Include", "Interpolation"; its
-- tools' `-f`, `--project-directory`, `--env-file`, `.env`).
use Rattle.std.specs.Prelude.{ℕ, suc, List, [], ◌∷◌, Option, Some, None, codes}
use Rattle.tree_base.specs.Limits.{most_files}
use Rattle.include_extends.specs.Includes.{model}
use Rattle.include_extends.specs.Requests.{default_names, places_of}
use Rattle.loaded_files.specs.declared.outcome.Loaded.{Loaded}
use Rattle.include_extends.specs.declared.request.LoadRequest.{LoadRequest}
use Rattle.include_extends.specs.declared.request.Places.{Places}
use Rattle.loaded_files.specs.Paths.{Variables, joined}
use Rattle.loaded_files.specs.Reads.{◌>>=◌, Load, after, give, look, refuse}
use Rattle.loaded_files.specs.Refusing.{of_path}
use Rattle.loaded_files.specs.declared.reads.Seen.{Seen}
use Rattle.loaded_files.specs.declared.reads.Seen.TheVariants.{Missing}
use Rattle.loaded_files.specs.declared.refusal.LoadRefusal.TheVariants.{NotFound}

-- what was found at a path, or what follows where nothing is there
abbrev pub found_or : List ℕ → Load (List ℕ × Seen) → Seen → Load (List ℕ × Seen)
found_or path later Missing = later
found_or path later found = give (path, found)

-- the first of these names under which a file is in a directory; where there is none, `compose.yaml` is what is
-- missing
abbrev pub default_file : List ℕ → List (List ℕ) → Load (List ℕ × Seen)
default_file directory [] = refuse (NotFound (joined directory (codes "compose.yaml")))
default_file directory (name ∷ names) =
    look (joined directory name) >>= found_or (joined directory name) (default_file directory names)

-- the files of a call, and what was seen of the first one: those that are given, which aren't looked at yet, or the
-- default one
abbrev pub files_found : List ℕ → List (List ℕ) → Load (List (List ℕ) × Option Seen)
files_found directory [] =
    default_file directory default_names >>= λ got. give (got.0 ∷ [], Some got.1)
files_found directory (path ∷ paths) = give (path ∷ paths, None)

-- what is loaded at places whose files are known, the first of which may have been looked at before: they make one
-- model, and what was loaded tells them and their directory
abbrev pub loaded_of : Places → Variables → Option Seen → Load Loaded
loaded_of places caller found =
    model (suc most_files) places caller places.files found most_files >>= λ whole.
    give (record {
      tree = whole.tree;
      directory = places.directory;
      files = places.files;
      env = whole.env;
    })

-- places with these files
abbrev pub with_files : Places → List (List ℕ) → Places
with_files places files =
    record { files = files; env_files = places.env_files; directory = places.directory }

-- what is loaded at these places under the caller's variables: the files are found first
abbrev pub loaded_at : Places → Variables → Load Loaded
loaded_at places caller =
    files_found places.directory places.files >>= λ found.
    loaded_of (with_files places found.0) caller found.1

-- what a request loads: its places come first, and then what stands there
abbrev pub loading : LoadRequest → Load Loaded
loading request = after (of_path (places_of request)) (λ places. loaded_at places request.env)
