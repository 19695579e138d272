-- The places that a request names: which files, env files and project directory (the Compose Specification, "Compose
-- file" and "Working directory"; its tools' `-f`, `--env-file`, `--project-directory`).
use Rattle.std.specs.Prelude.{ℕ, List, [], ◌∷◌, Option, Some, None, Result, Ok, codes}
use Rattle.file_paths.specs.declared.refusal.PathRefusal.{PathRefusal}
use Rattle.loaded_files.specs.Paths.{Variables, all_homed, directory_of, homed, joined}
use Rattle.include_extends.specs.declared.request.LoadRequest.{LoadRequest}
use Rattle.include_extends.specs.declared.request.Places.{Places}
use Rattle.tree_base.specs.Answers.{◌>>=◌}

-- the names of a model's file, where none is given, in the order in which it is looked for
abbrev pub default_names : List (List ℕ)
default_names =
    codes "compose.yaml" ∷ codes "compose.yml"
    ∷ codes "docker-compose.yml" ∷ codes "docker-compose.yaml" ∷ []

-- the project directory: the one that is given, else that of the first file, else the working directory
abbrev pub project_directory :
    List ℕ → Variables → List (List ℕ) → Option (List ℕ) → Result (List ℕ) PathRefusal
project_directory cwd env files (Some path) = homed cwd env path
project_directory cwd env [] None = Ok (joined cwd [])
project_directory cwd env (file ∷ files) None = Ok (directory_of file)

-- some paths, or none where no path is given
abbrev pub given_paths : List (List ℕ) → Option (List (List ℕ))
given_paths [] = None
given_paths (path ∷ paths) = Some (path ∷ paths)

-- the places that a request names, taken against the working directory: its files, its env files, and then its
-- directory
abbrev pub places_of : LoadRequest → Result Places PathRefusal
places_of request =
    all_homed request.cwd request.env request.files >>= λ files.
    all_homed request.cwd request.env request.env_files >>= λ env_files.
    project_directory request.cwd request.env files request.project_directory >>= λ directory.
    Ok (record { files = files; env_files = given_paths env_files; directory = directory })
