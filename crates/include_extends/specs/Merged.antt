-- The files of a model, merged under its variables, with their shape asked and their paths taken (the Compose
-- Specification, "Merge", "Interpolation").
use Rattle.std.specs.Prelude.{ℕ, List, Option}
use Rattle.file_paths.specs.Resolving.{resolved}
use Rattle.include_extends.specs.declared.model.Model.{Model}
use Rattle.loaded_files.specs.EnvFiles.{environment}
use Rattle.loaded_files.specs.FileTrees.{files_laid, shaped}
use Rattle.loaded_files.specs.Paths.{Variables}
use Rattle.loaded_files.specs.Reads.{◌>>=◌, Load, after, give}
use Rattle.loaded_files.specs.Refusing.{of_path}
use Rattle.loaded_files.specs.declared.reads.Seen.{Seen}
use Rattle.tree_base.specs.declared.Tree.{Tree, Null}

-- the tree that the files of a model gave: its shape is asked, and then its paths are taken against the model's
-- directory
abbrev pub placed : List ℕ → Variables → Tree → Load Tree
placed directory env tree =
    after (shaped tree) (λ tree. after (of_path (resolved directory env tree)) give)

-- a model under its variables: its files come first, then their shape and paths
abbrev pub model_under : List (List ℕ) → List ℕ → Variables → Option Seen → ℕ → Load Model
model_under files directory env found left =
    files_laid env files found Null left >>= λ laid. placed directory env laid.0 >>= λ tree.
    give (record { tree = tree; env = env; left = laid.1 })

-- a model of these files in a directory, under the caller's variables and those of env files; so many files may be
-- read, and the first one may have been looked at before
abbrev pub merged_model :
    List (List ℕ) → List ℕ → Option (List (List ℕ)) → Variables → Option Seen → ℕ → Load Model
merged_model files directory env_paths caller found left =
    environment directory env_paths caller left >>= λ got.
    model_under files directory got.0 found got.1
