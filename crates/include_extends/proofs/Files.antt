-- What the files of a model give, by what their reads gave: their shape and paths, and the model.
use Rattle.std.proofs.Common.{ℕ, List, Option, Result, Ok, Err, refl}
use Rattle.file_paths.specs.Resolving.{resolved}
use Rattle.include_extends.specs.Merged.{merged_model, model_under, placed}
use Rattle.include_extends.specs.declared.model.Model.{Model}
use Rattle.loaded_files.specs.EnvFiles.{environment}
use Rattle.loaded_files.specs.FileTrees.{files_laid, shaped}
use Rattle.loaded_files.specs.Paths.{Variables}
use Rattle.loaded_files.specs.Reads.{◌>>=◌, Gives, IsGiven, Load, after, give}
use Rattle.loaded_files.specs.Refusing.{of_path}
use Rattle.loaded_files.specs.declared.reads.Seen.{Seen}
use Rattle.loaded_files.specs.declared.refusal.LoadRefusal.{LoadRefusal}
use Rattle.loaded_files.proofs.Runs.{given_on, given_out, gives_on, gives_out}
use Rattle.loaded_files.proofs.Steps.{given_last}
use Rattle.outside_files.specs.Files.{Contents}
use Rattle.tree_base.specs.declared.Tree.{Tree, Null}

module _ (told : Option Contents) where
  -- the shape of what the files gave, and then its paths
  module _ (directory : List ℕ) (env : Variables) (tree : Tree) where
    abbrev then_paths : Tree → Load Tree
    then_paths tree = after (of_path (resolved directory env tree)) give

    pub misshaped : (e : LoadRefusal) → IsGiven {X = Tree} (Err e) (shaped tree) → Gives {X = Tree} told (Err e) (placed directory env tree)
    misshaped e h = given_out told (shaped tree) then_paths e h

    pub is_placed : (whole : Tree) (r : Result Tree LoadRefusal) → IsGiven (Ok whole) (shaped tree) → IsGiven r (of_path (resolved directory env whole)) → Gives told r (placed directory env tree)
    is_placed whole r h k = given_on told (shaped tree) then_paths whole r h (given_last told r (of_path (resolved directory env whole)) k)

  -- a model under its variables
  module _ (files : List (List ℕ)) (directory : List ℕ) (env : Variables) (found : Option Seen) (left : ℕ) where
    abbrev as_model : ℕ → Tree → Load Model
    as_model rest tree = give (record { tree = tree; env = env; left = rest })

    abbrev then_placed : Tree × ℕ → Load Model
    then_placed laid = placed directory env laid.0 >>= as_model laid.1

    pub not_laid : (e : LoadRefusal) → Gives {X = Tree × ℕ} told (Err e) (files_laid env files found Null left) → Gives {X = Model} told (Err e) (model_under files directory env found left)
    not_laid e h = gives_out told (files_laid env files found Null left) then_placed e h

    module _ (merged : Tree) (rest : ℕ) (h : Gives told (Ok (merged, rest)) (files_laid env files found Null left)) where
      at_merged : (r : Result Model LoadRefusal) → Gives told r (then_placed (merged, rest)) → Gives told r (model_under files directory env found left)
      at_merged r k = gives_on told (files_laid env files found Null left) then_placed (merged, rest) r h k

      pub not_placed : (e : LoadRefusal) → Gives {X = Tree} told (Err e) (placed directory env merged) → Gives {X = Model} told (Err e) (model_under files directory env found left)
      not_placed e k = at_merged (Err e) (gives_out told (placed directory env merged) (as_model rest) e k)

      pub model_there : (tree : Tree) → Gives told (Ok tree) (placed directory env merged)
          → Gives told (Ok (record { tree = tree; env = env; left = rest })) (model_under files directory env found left)
      model_there tree k =
          at_merged (Ok (record { tree = tree; env = env; left = rest }))
          (gives_on told (placed directory env merged) (as_model rest) tree (Ok (record { tree = tree; env = env; left = rest })) k (λ n. refl))

  -- a model, whose variables come first
  module _ (files : List (List ℕ)) (directory : List ℕ) (env_paths : Option (List (List ℕ))) (caller : Variables) (found : Option Seen) (left : ℕ) where
    abbrev then_files : Variables × ℕ → Load Model
    then_files got = model_under files directory got.0 found got.1

    pub no_variables : (e : LoadRefusal) → Gives {X = Variables × ℕ} told (Err e) (environment directory env_paths caller left) → Gives {X = Model} told (Err e) (merged_model files directory env_paths caller found left)
    no_variables e h = gives_out told (environment directory env_paths caller left) then_files e h

    pub variables_there : (env : Variables) (rest : ℕ) (r : Result Model LoadRefusal) → Gives told (Ok (env, rest)) (environment directory env_paths caller left) → Gives told r (model_under files directory env found rest)
        → Gives told r (merged_model files directory env_paths caller found left)
    variables_there env rest r h k = gives_on told (environment directory env_paths caller left) then_files (env, rest) r h k
