-- The variables of env files, under those of the caller (the Compose Specification, "Interpolation", `env_file`; its
-- tools' `--env-file`, `.env`).
use Rattle.std.specs.Prelude.{ℕ, List, [], ◌∷◌, fold, Option, Some, None, Result, Ok, Err, codes}
use Rattle.dotenv.specs.Files.{env_file}
use Rattle.loaded_files.specs.Paths.{Variables, joined}
use Rattle.loaded_files.specs.Reads.{◌>>=◌, Load, after, file_at, file_if_there, give}
use Rattle.loaded_files.specs.Refusing.{of_env}
use Rattle.loaded_files.specs.declared.refusal.LoadRefusal.{LoadRefusal}
use Rattle.tree_base.specs.Entries.{with_entry}

-- variables with those of a second list, which win
abbrev pub with_all : Variables → Variables → Variables
with_all base more = fold (λ entries entry. with_entry entries entry.0 entry.1) base more

-- the values that a file gives over those of earlier ones
abbrev pub laid_over : Variables → Result Variables LoadRefusal → Result Variables LoadRefusal
laid_over earlier (Ok values) = Ok (with_all earlier values)
laid_over earlier (Err refusal) = Err refusal

-- the variables of an env file with those of earlier ones, which it sees below the caller's, and over which it wins
abbrev pub with_env_file : Variables → List ℕ → List ℕ → Variables → Result Variables LoadRefusal
with_env_file caller path bytes earlier = laid_over earlier (of_env path (env_file (with_all earlier caller) bytes))

-- an env file that has to be there, and how many files may still be read
abbrev pub with_file : Variables → List ℕ → Variables → ℕ → Load (Variables × ℕ)
with_file caller path earlier left =
    file_at path left >>= λ got. after (with_env_file caller path got.0 earlier) (λ values. give (values, got.1))

-- the variables of env files, in order
abbrev pub env_files : Variables → List (List ℕ) → Variables → ℕ → Load (Variables × ℕ)
env_files caller [] earlier left = give (earlier, left)
env_files caller (path ∷ more) earlier left =
    with_file caller path earlier left >>= λ got. env_files caller more got.0 got.1

-- the variables of an env file that may be missing with those of earlier ones
abbrev pub env_file_if :
    Variables → List ℕ → Variables → Option (List ℕ) → Result Variables LoadRefusal
env_file_if caller path earlier None = Ok earlier
env_file_if caller path earlier (Some bytes) = with_env_file caller path bytes earlier

-- an env file that may be missing, and how many files may still be read
abbrev pub with_file_if : Variables → List ℕ → Variables → ℕ → Load (Variables × ℕ)
with_file_if caller path earlier left =
    file_if_there path left >>= λ got.
    after (env_file_if caller path earlier got.0) (λ values. give (values, got.1))

-- the variables of `.env` in a directory
abbrev pub default_env : List ℕ → Variables → ℕ → Load (Variables × ℕ)
default_env directory caller left = with_file_if caller (joined directory (codes ".env")) [] left

-- the variables of the env files that were given, of which there may be none, or else of `.env`
abbrev pub file_variables :
    List ℕ → Option (List (List ℕ)) → Variables → ℕ → Load (Variables × ℕ)
file_variables directory None caller left = default_env directory caller left
file_variables directory (Some paths) caller left = env_files caller paths [] left

-- the variables of a model: the caller's win over those of env files
abbrev pub environment :
    List ℕ → Option (List (List ℕ)) → Variables → ℕ → Load (Variables × ℕ)
environment directory paths caller left =
    file_variables directory paths caller left >>= λ got. give (with_all got.0 caller, got.1)
